-- Byte after byte: after i turns the first i bytes of the text are put.
use Prim.Native.Nat.{◌+◌}
use lib.ListN.{take}
use Rattle.text.specs.Put.{Puts}
use Rattle.text.proofs.copy.Given as goal

abbrev pub invariant-loop-i : goal.invariant-loop-i
invariant-loop-i l = Puts l.initial.out l.at (take l.i l.text) (l.at + l.i) l.out
