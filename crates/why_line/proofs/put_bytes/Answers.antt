-- Byte after byte: after i turns the first i bytes are put.
use Rattle.std.proofs.Common.{add-one, take_all}
use Rattle.text.specs.PagesLaws.{next, nothing}
use Rattle.why_line.specs.ReasonTextLaws.{hexes_more}
use Rattle.why_line.proofs.put_bytes.Goals as goal

pub loop-byte-init : goal.loop-byte-init
loop-byte-init c = nothing _

pub loop-byte-preserved : goal.loop-byte-preserved
loop-byte-preserved c =
    rw (add-one, hexes_more _ _ c.loop-byte-test.true) (next c.loop-byte.invariant c.put_spaced.ensures)

pub returns : goal.returns
returns c =
    let all = take_all c.loop-byte.byte-index c.args.bytes.now c.loop-byte-test.false in
    simp all at c.loop-byte.invariant
