-- The room left, and the bytes of the differences still to come, are those of the start.
use mathlib.Core.Path.{◌≡◌}
use Prim.Native.Nat.{◌≤◌, ◌-◌, ◌+◌}
use lib.ListN.{length}
use Rattle.line_records.specs.Lines.{full_lines}
use Rattle.diff_records.specs.Difference.{differences, encoded_all}
use Rattle.diff_records.proofs.NextLaws.{left_bytes}
use Rattle.diff_lines.proofs.fits.Given as goal

abbrev pub invariant-loop-a : goal.invariant-loop-a
invariant-loop-a l = (l.i ≤ length l.first) × (l.j ≤ length l.second) × (length (encoded_all (differences (full_lines l.first) (full_lines l.second))) + l.left ≡ l.room + length (left_bytes l.first l.second l.i l.j))

abbrev pub decreases-loop-a : goal.decreases-loop-a
decreases-loop-a l = (length l.first - l.i) + (length l.second - l.j)
