-- The line, then the code that came.
use Rattle.text.specs.PagesLaws.{next}
use Rattle.why_words.specs.ReasonWords.{end_words}
use borrow.Author.Rules.{rules}
use Rattle.why_words.proofs.put_end.Goals as goal

pub returns : goal.returns
unfolding end_words
returns c =
    next c.put_line.ensures (next c.put.ensures c.put_hex.ensures)
