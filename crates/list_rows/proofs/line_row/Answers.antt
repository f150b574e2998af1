-- The mark, then what a row says of a line.
use borrow.Author.Rules.{rules}
use Rattle.text.specs.PagesLaws.{next}
use Rattle.list_rows.proofs.line_row.Goals as goal

pub returns : goal.returns
returns c =
    next c.put_decimal.ensures (next c.put.ensures (next c.put_line.ensures c.put-2.ensures))
