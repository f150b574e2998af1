-- The judge is replaced, and the frames that opened are counted by the judge before and after; the rest is copied.
use borrow.Author.Rules.{rules}
use Rattle.frame_tally.proofs.Tally.moved.Goals as goal

pub returns : goal.returns
returns c = simp c.opening-frames.ensures
