-- A line with a count of what has a number.
use Rattle.signal_report.specs.SignalReport.{refused_count}
use borrow.Author.Rules.{rules}
use Rattle.signal_report.proofs.put_refused_count.Goals as goal

pub returns : goal.returns
unfolding refused_count
returns c = c.put_numbered.ensures
