-- At each turn no nibble that is passed is farther from F than the number.
use Prim.Native.Nat.{ℕ, ◌+◌, ◌≤◌, ◌<◌}
use lib.ListN.{get_or}
use Rattle.run_ahead.proofs.most_off.Given as goal

abbrev pub invariant-loop-x : goal.invariant-loop-x
invariant-loop-x l = (k : ℕ) → k < l.x-index → 15 ≤ get_or l.x-items k 0 + l.most
