-- The name where the sum fails, and else nothing.
use Rattle.text.specs.PagesLaws.{nothing}
use Rattle.why_words.specs.ReasonWords.{sum_word}
use borrow.Author.Rules.{rules}
use Rattle.why_words.proofs.put_if.Goals as goal

pub returns-then-fails : goal.returns-then-fails
unfolding sum_word
returns-then-fails c =
    simp c.if-fails.true (c.put.ensures)

pub returns-else-fails : goal.returns-else-fails
unfolding sum_word
returns-else-fails c =
    simp c.if-fails.false (nothing _)
