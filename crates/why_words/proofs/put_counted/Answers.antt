-- The number, with its words.
use Rattle.text.specs.PagesLaws.{next}
use Rattle.why_words.specs.ReasonWords.{count_words}
use borrow.Author.Rules.{rules}
use Rattle.why_words.proofs.put_counted.Goals as goal

pub returns : goal.returns
unfolding count_words
returns c =
    next c.put.ensures (next c.put_decimal.ensures c.put-2.ensures)
