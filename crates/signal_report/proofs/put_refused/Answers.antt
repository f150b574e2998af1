-- The three groups, one after another.
use Rattle.signal_report.specs.SignalReport.{refused_lines}
use Rattle.text.specs.PagesLaws.{next}
use borrow.Author.Rules.{rules}
use Rattle.signal_report.proofs.put_refused.Goals as goal

pub returns : goal.returns
unfolding refused_lines
returns c =
    next c.put_refused_codes.ensures
    (next c.put_broken_lines.ensures
    c.put_refused_ends.ensures)
