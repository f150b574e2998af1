-- The words, and the name of the line that the code reads as.
use Rattle.text.specs.PagesLaws.{next}
use Rattle.why_words.specs.ReasonWords.{with_line_name}
use borrow.Author.Rules.{rules}
use Rattle.why_words.proofs.put_line.Goals as goal

pub returns : goal.returns
unfolding with_line_name
returns c =
    simp (← c.read-reading.ensures, ← c.kind-kind.ensures) (next c.put.ensures c.put_line_name.ensures)
