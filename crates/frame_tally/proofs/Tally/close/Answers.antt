-- An unfinished line counts its mark, and the frame is cut; else the last answer is taken, and the frame cut only if that had no news.
use Rattle.frame_tally.specs.Tally.{close_of}
use borrow.Author.Rules.{rules}
use Rattle.frame_tally.proofs.Tally.close.Goals as goal

pub returns-then-is_unfinished : goal.returns-then-is_unfinished
unfolding close_of
returns-then-is_unfinished c = simp (← c.is_unfinished.ensures, c.if-is_unfinished.true, c.cut.ensures, c.marked.ensures)

pub returns-in-Nothing : goal.returns-in-Nothing
unfolding close_of
returns-in-Nothing c = simp (← c.is_unfinished.ensures, c.if-is_unfinished.false, ← c.take-told.ensures, c.in-Nothing.is, c.cut-in-Nothing.ensures)

pub returns-in-Complete : goal.returns-in-Complete
unfolding close_of
returns-in-Complete c = simp (← c.is_unfinished.ensures, c.if-is_unfinished.false, ← c.take-told.ensures, c.in-Complete.is)

pub returns-in-Broken : goal.returns-in-Broken
unfolding close_of
returns-in-Broken c = simp (← c.is_unfinished.ensures, c.if-is_unfinished.false, ← c.take-told.ensures, c.in-Broken.is)

pub returns-in-Cut : goal.returns-in-Cut
unfolding close_of
returns-in-Cut c = simp (← c.is_unfinished.ensures, c.if-is_unfinished.false, ← c.take-told.ensures, c.in-Cut.is)
