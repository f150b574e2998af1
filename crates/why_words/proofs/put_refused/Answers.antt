-- The number, after its word.
use Rattle.text.specs.PagesLaws.{next}
use Rattle.why_words.specs.ReasonWords.{refused_number}
use borrow.Author.Rules.{rules}
use Rattle.why_words.proofs.put_refused.Goals as goal

pub returns : goal.returns
unfolding refused_number
returns c =
    next c.put.ensures c.put_decimal.ensures
