-- The mark, then what a row says of a gap.
use borrow.Author.Rules.{rules}
use Rattle.text.specs.PagesLaws.{next}
use Rattle.list_rows.proofs.gap_row.Goals as goal

pub returns : goal.returns
returns c =
    next c.put_decimal.ensures c.put.ensures
