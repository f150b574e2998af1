-- While waiting a broken line changes nothing; within a frame it is refused with 19, and the judge waits.
use borrow.Author.Rules.{rules}
use Rattle.frame_judge.proofs.Judge.broken.Goals as goal

pub returns-in-Waiting : goal.returns-in-Waiting
returns-in-Waiting c = simp c.in-Waiting.is

pub returns-in-Due : goal.returns-in-Due
returns-in-Due c = simp (c.in-Due.is, c.refused.ensures)
