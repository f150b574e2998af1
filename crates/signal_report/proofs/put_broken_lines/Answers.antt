-- A line for each, one after another.
use Rattle.signal_report.specs.SignalReport.{broken_lines}
use Rattle.text.specs.PagesLaws.{next}
use borrow.Author.Rules.{rules}
use Rattle.signal_report.proofs.put_broken_lines.Goals as goal

pub returns : goal.returns
unfolding broken_lines
returns c =
    next c.put_refused_count.ensures
    (next c.put_refused_count-2.ensures
    (next c.put_refused_count-3.ensures
    (next c.put_refused_count-4.ensures
    c.put_refused_count-5.ensures)))
