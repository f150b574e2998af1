-- By the judge before and after: only from waiting to within a frame has one more opened.
use borrow.Author.Rules.{rules}
use Rattle.frame_tally.proofs.opening.Goals as goal

pub returns-in-Due-judge : goal.returns-in-Due-judge
returns-in-Due-judge c = simp (c.in-Waiting.is, c.in-Due-judge.is, c.one_more.ensures)
