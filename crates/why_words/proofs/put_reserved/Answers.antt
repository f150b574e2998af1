-- The code, after its words.
use Rattle.text.specs.PagesLaws.{next}
use Rattle.why_words.specs.ReasonWords.{reserved_words}
use borrow.Author.Rules.{rules}
use Rattle.why_words.proofs.put_reserved.Goals as goal

pub returns : goal.returns
unfolding reserved_words
returns c =
    next c.put.ensures c.put_hex.ensures
