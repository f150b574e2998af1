-- The high and the low nibble are stored at two places that have room, and a store leaves the buffer's length.
use mathlib.Core.Path.{refl}
use native.Mathlib.Numerals.{add-one}
use native.Mathlib.Omega.{arith}
use lib.ListN.{length-set}
use Rattle.writer.proofs.put_byte.Goals as goal

pub bounds-buffer-at-2 : goal.bounds-buffer-at-2
bounds-buffer-at-2 c = simp length-set (omega arith)

pub returns : goal.returns
returns c = record { place = refl; kept = simp length-set; stored = rw add-one }
