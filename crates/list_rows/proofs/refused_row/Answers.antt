-- The mark, then `REFUSED - ` and the number.
use borrow.Author.Rules.{rules}
use Rattle.text.specs.PagesLaws.{next}
use Rattle.list_rows.specs.Rows.{refused_words}
use Rattle.list_rows.proofs.refused_row.Goals as goal

pub returns : goal.returns
unfolding refused_words
returns c =
    next c.put_decimal.ensures (next c.put.ensures (next c.put_decimal-2.ensures c.put-2.ensures))
