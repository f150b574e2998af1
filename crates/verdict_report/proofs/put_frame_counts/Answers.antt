-- The parts of the line, one after another.
use Rattle.verdict_report.specs.Report.{frame_counts}
use Rattle.text.specs.PagesLaws.{next}
use borrow.Author.Rules.{rules}
use Rattle.verdict_report.proofs.put_frame_counts.Goals as goal

pub returns : goal.returns
unfolding frame_counts
returns c =
    next c.put.ensures
    (next c.put_decimal.ensures
    (next c.put-2.ensures
    (next c.put_decimal-2.ensures
    (next c.put-3.ensures
    (next c.put_decimal-3.ensures
    c.put-4.ensures)))))
