-- One more frame is complete; its borders are those of the judge before the last line, for the one after it waits.
use borrow.Author.Rules.{rules}
use Rattle.frame_tally.proofs.Tally.completed.Goals as goal

pub returns : goal.returns
returns c = simp (c.borders.ensures, c.one_more-complete.ensures)
