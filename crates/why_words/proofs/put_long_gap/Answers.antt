-- The answer, and the words of a long gap.
use Rattle.text.specs.PagesLaws.{next}
use Rattle.why_words.specs.ReasonWords.{long_gap_words}
use borrow.Author.Rules.{rules}
use Rattle.why_words.proofs.put_long_gap.Goals as goal

pub returns : goal.returns
unfolding long_gap_words
returns c =
    next c.put_answer.ensures c.put.ensures
