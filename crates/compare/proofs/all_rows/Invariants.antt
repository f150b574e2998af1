-- Each turn passes one list or both, within what is left of them; the rows are within their buffer.
use Rattle.std.proofs.Common.{◌-◌, ◌≤◌, ◌+◌, length}
use Rattle.compare.proofs.all_rows.Given as goal

abbrev pub invariant-loop-rows : goal.invariant-loop-rows
invariant-loop-rows l = (l.i ≤ length l.first) × (l.j ≤ length l.second)

abbrev pub decreases-loop-rows : goal.decreases-loop-rows
decreases-loop-rows l = (length l.first - l.i) + (length l.second - l.j)
