-- The parts, one after another.
use Rattle.text.specs.PagesLaws.{next}
use borrow.Author.Rules.{rules}
use Rattle.signal_report.proofs.put_range.Goals as goal

pub returns : goal.returns
returns c =
    next c.put_decimal.ensures
    (next c.put.ensures
    (next c.put_decimal-2.ensures
    c.put-2.ensures))
