-- At each turn no window that is passed is nearer than the number to one before a mark.
use Prim.Native.Nat.{ℕ, ◌≤◌, ◌<◌}
use Rattle.run_ahead.specs.Blocks.{Apart}
use Rattle.run_ahead.proofs.least_gap.Given as goal

abbrev pub invariant-loop-k : goal.invariant-loop-k
invariant-loop-k l = (x : ℕ) → l.i ≤ x → x < l.k → Apart l.least l.s x
