-- By whether the gap is longer than what is looked at.
use Rattle.why_words.specs.ReasonWords.{good_gap_words}
use borrow.Author.Rules.{rules}
use Rattle.why_words.proofs.put_good_gap.Goals as goal

pub returns-then-cut : goal.returns-then-cut
unfolding good_gap_words
returns-then-cut c =
    simp c.if-cut.true c.put_long_gap.ensures

pub returns-else-cut : goal.returns-else-cut
unfolding good_gap_words
returns-else-cut c =
    simp c.if-cut.false c.put.ensures
