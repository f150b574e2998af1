-- A line for each, one after another.
use Rattle.signal_report.specs.SignalReport.{refused_codes}
use Rattle.text.specs.PagesLaws.{next}
use borrow.Author.Rules.{rules}
use Rattle.signal_report.proofs.put_refused_codes.Goals as goal

pub returns : goal.returns
unfolding refused_codes
returns c =
    next c.put_refused_count.ensures
    c.put_refused_count-2.ensures
