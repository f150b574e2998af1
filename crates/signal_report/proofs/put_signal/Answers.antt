-- The three parts, one after another.
use Rattle.signal_report.specs.SignalReport.{signal_lines}
use Rattle.text.specs.PagesLaws.{next}
use borrow.Author.Rules.{rules}
use Rattle.signal_report.proofs.put_signal.Goals as goal

pub returns : goal.returns
unfolding signal_lines
returns c =
    next c.put_refused.ensures
    (next c.put_repaired.ensures
    c.put_periods.ensures)
