-- The refusal, what the mark begins, and the words of a long line.
use Rattle.text.specs.PagesLaws.{next}
use Rattle.why_words.specs.ReasonWords.{long_line_words}
use borrow.Author.Rules.{rules}
use Rattle.why_words.proofs.put_long_line.Goals as goal

pub returns : goal.returns
unfolding long_line_words
returns c =
    next c.put_refused.ensures (next c.put_line.ensures c.put.ensures)
