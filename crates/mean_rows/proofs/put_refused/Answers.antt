-- The line's number, the refusal's, its words, and the row's end.
use Rattle.text.specs.PagesLaws.{next}
use Rattle.mean_rows.specs.MeanRows.{refused_row}
use borrow.Author.Rules.{rules}
use Rattle.mean_rows.proofs.put_refused.Goals as goal

pub returns : goal.returns
unfolding refused_row
returns c =
    next c.put_decimal.ensures
    (next c.put.ensures (next c.put_decimal-2.ensures (next c.put_reason.ensures c.put-2.ensures)))
