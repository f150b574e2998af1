-- The three numbers, with a space after each.
use Rattle.text.specs.PagesLaws.{next}
use Rattle.mean_rows.specs.MeanRows.{start_words}
use borrow.Author.Rules.{rules}
use Rattle.mean_rows.proofs.put_start.Goals as goal

pub returns : goal.returns
unfolding start_words
returns c =
    next c.put_decimal.ensures
    (next c.put.ensures
    (next c.put_decimal-2.ensures (next c.put-2.ensures (next c.put_decimal-3.ensures c.put-3.ensures))))
