-- The numbers from a part on rise from the least that may come there.
use Rattle.std.proofs.Common.{◌≡◌, ◌≤◌}
use Rattle.std.specs.Slice.Iter.{chunks_rest, chunks_size}
use Rattle.line_records.specs.Lines.{line_size, headed_lines, rises_from, rises}
use Rattle.line_records.proofs.some_falls.Given as goal

abbrev pub invariant-loop-line : goal.invariant-loop-line
invariant-loop-line l =
    (goal.iterator-loop-line).can_next l.line-iterator
    × (goal.iterator-loop-line).is_finite l.line-iterator
    × (chunks_size l.line-iterator ≡ line_size)
    × (l.least ≤ 65536)
    × (rises (headed_lines l.list) ≡ rises_from l.least (headed_lines (chunks_rest l.line-iterator)))
