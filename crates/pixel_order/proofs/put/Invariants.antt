-- At each turn the first i bytes are those of the line in order, and the rest is as it was.
use mathlib.Core.Path.{◌≡◌}
use Rattle.pixel_order.proofs.Putting.{filled}
use Rattle.pixel_order.proofs.put.Given as goal

abbrev pub invariant-loop-i : goal.invariant-loop-i
invariant-loop-i l = l.to ≡ filled l.way l.from l.initial.to l.i
