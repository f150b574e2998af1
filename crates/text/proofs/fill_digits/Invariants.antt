-- From the last digit on: those left to put, and those behind the place, are the number's.
use mathlib.Core.Path.{◌≡◌}
use mathlib.Core.List.{◌++◌}
use Prim.Native.Nat.{◌<◌, ◌≤◌}
use lib.ListN.{length, drop}
use Rattle.text.specs.Text.{digits, decimal}
use Rattle.text.proofs.fill_digits.Given as goal

abbrev pub invariant-loop-left : goal.invariant-loop-left
invariant-loop-left l = (0 < l.left) × (l.left ≤ 20) × (length l.places ≡ 20) × (digits l.left l.rest ++ drop l.left l.places ≡ decimal l.n)

abbrev pub decreases-loop-left : goal.decreases-loop-left
decreases-loop-left l = l.left
