-- Place after place: no mark begins before the place reached.
use mathlib.Core.Path.{◌≡◌}
use Prim.Native.Nat.{◌+◌}
use lib.ListN.{drop}
use Rattle.reason.specs.Explanation.{next_mark}
use Rattle.reason.proofs.next_mark.Given as goal

abbrev pub invariant-loop-i : goal.invariant-loop-i
invariant-loop-i l = next_mark l.run ≡ l.i + next_mark (drop l.i l.run)
