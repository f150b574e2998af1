-- By the judge: while it waits there is no news; within a frame that frame is cut off, and no count changes.
use Rattle.frame_tally.specs.Tally.{cut_of}
use borrow.Author.Rules.{rules}
use Rattle.frame_tally.proofs.Tally.cut.Goals as goal

pub returns-in-Waiting : goal.returns-in-Waiting
unfolding cut_of
returns-in-Waiting c = simp (c.in-Waiting.is, c.quiet.ensures)

pub returns-in-Due : goal.returns-in-Due
unfolding cut_of
returns-in-Due c = simp (c.in-Due.is, c.moved-tally.ensures)
