-- The differences from a place of each list on are left to count; each turn counts those of the next number.
use mathlib.Core.Path.{◌≡◌}
use Prim.Native.Nat.{◌≤◌, ◌-◌, ◌+◌}
use lib.ListN.{length}
use Rattle.line_records.specs.Lines.{full_lines}
use Rattle.diff_records.specs.Difference.{differences}
use Rattle.diff_summary.specs.Summary.{with_differences, summary_of}
use Rattle.diff_summary.specs.SummaryLaws.{differences_from}
use Rattle.diff_summary.proofs.summed.Given as goal

abbrev pub invariant-loop-a : goal.invariant-loop-a
invariant-loop-a l = (l.i ≤ length l.first) × (l.j ≤ length l.second) × (with_differences l.s (differences_from l.first l.second l.i l.j) ≡ summary_of (differences (full_lines l.first) (full_lines l.second)))

abbrev pub decreases-loop-a : goal.decreases-loop-a
decreases-loop-a l = (length l.first - l.i) + (length l.second - l.j)
