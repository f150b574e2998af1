-- A line with a count of what has a number.
use Rattle.signal_report.specs.SignalReport.{bit_line}
use borrow.Author.Rules.{rules}
use Rattle.signal_report.proofs.put_bit.Goals as goal

pub returns : goal.returns
unfolding bit_line
returns c = c.put_numbered.ensures
