-- A line for each, one after another.
use Rattle.signal_report.specs.SignalReport.{high_bits}
use Rattle.text.specs.PagesLaws.{next}
use borrow.Author.Rules.{rules}
use Rattle.signal_report.proofs.put_high_bits.Goals as goal

pub returns : goal.returns
unfolding high_bits
returns c =
    next c.put_bit.ensures
    (next c.put_bit-2.ensures
    (next c.put_bit-3.ensures
    c.put_bit-4.ensures))
