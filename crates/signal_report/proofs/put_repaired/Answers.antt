-- The low bits, then the high ones.
use Rattle.signal_report.specs.SignalReport.{repaired_lines}
use Rattle.text.specs.PagesLaws.{next}
use borrow.Author.Rules.{rules}
use Rattle.signal_report.proofs.put_repaired.Goals as goal

pub returns : goal.returns
unfolding repaired_lines
returns c =
    next c.put_low_bits.ensures
    c.put_high_bits.ensures
