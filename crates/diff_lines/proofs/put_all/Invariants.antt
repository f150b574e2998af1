-- The differences still to come are left to put; each turn puts those of the next number.
use Prim.Native.Nat.{◌≤◌, ◌-◌, ◌+◌}
use lib.ListN.{length}
use Rattle.line_records.specs.Lines.{full_lines}
use Rattle.diff_records.specs.Difference.{differences, encoded_all}
use Rattle.diff_records.proofs.NextLaws.{left_bytes}
use Rattle.diff_records.specs.RestLaws.{Rest}
use Rattle.diff_lines.proofs.put_all.Given as goal

abbrev pub invariant-loop-a : goal.invariant-loop-a
invariant-loop-a l = (l.i ≤ length l.first) × (l.j ≤ length l.second) × Rest l.initial.buffer 0 (encoded_all (differences (full_lines l.first) (full_lines l.second))) (left_bytes l.first l.second l.i l.j) l.at l.buffer

abbrev pub decreases-loop-a : goal.decreases-loop-a
decreases-loop-a l = (length l.first - l.i) + (length l.second - l.j)
