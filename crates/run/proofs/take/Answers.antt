-- Nothing is refused, so what the reader's own call gives is a nibble taken.
use native.Mathlib.Omega.{arith}
use lib.ListN.{length}
use Rattle.reader.specs.Reader.{reader_of}
use Rattle.reader.proofs.Taking.{take_goes, gives_as}
use Rattle.run.proofs.take.Goals as goal

pub returns : goal.returns
returns c =
    let a = c.args in
    gives_as
    (take_goes (reader_of a.h a.body.now) a.nibble (length a.buffer.now) c.requires.2 (omega (arith, c.requires.0)) c.requires.1)
    c.take.ensures
