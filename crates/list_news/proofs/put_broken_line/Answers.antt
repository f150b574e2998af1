-- The words, the mark's own answer and the bracket, one after another.
use borrow.Author.Rules.{rules}
use Rattle.text.specs.PagesLaws.{next}
use Rattle.list_news.proofs.put_broken_line.Goals as goal

pub returns : goal.returns
returns c =
    simp (← c.own_number.ensures) (next c.put.ensures (next c.put_decimal.ensures c.put-2.ensures))
