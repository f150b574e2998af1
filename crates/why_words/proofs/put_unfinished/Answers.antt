-- By whether the line is longer than what is looked at.
use Rattle.text.specs.PagesLaws.{next}
use Rattle.why_words.specs.ReasonWords.{unfinished_words}
use borrow.Author.Rules.{rules}
use Rattle.why_words.proofs.put_unfinished.Goals as goal

pub returns-then-cut : goal.returns-then-cut
unfolding unfinished_words
returns-then-cut c =
    simp c.if-cut.true c.put_long_line.ensures

pub returns-else-cut : goal.returns-else-cut
unfolding unfinished_words
returns-else-cut c =
    simp c.if-cut.false (next c.put_line.ensures c.put.ensures)
