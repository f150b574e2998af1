-- The counts, then the lines outside.
use Rattle.verdict_report.specs.Report.{frames_lines}
use Rattle.text.specs.PagesLaws.{next}
use borrow.Author.Rules.{rules}
use Rattle.verdict_report.proofs.put_frames.Goals as goal

pub returns : goal.returns
unfolding frames_lines
returns c =
    next c.put_frame_counts.ensures
    (next c.put_count.ensures
    c.put_count-2.ensures)
