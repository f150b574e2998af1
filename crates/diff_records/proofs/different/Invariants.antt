-- The count so far, and the places from one on, are all the places.
use mathlib.Core.Path.{◌≡◌}
use Prim.Native.Nat.{◌≤◌, ◌+◌}
use lib.ListN.{drop}
use Rattle.diff_records.specs.Next.{different}
use Rattle.diff_records.proofs.different.Given as goal

abbrev pub invariant-loop-p : goal.invariant-loop-p
invariant-loop-p l = (l.count ≤ l.p) × (l.count + different (drop l.p l.a) (drop l.p l.b) ≡ different l.a l.b)
