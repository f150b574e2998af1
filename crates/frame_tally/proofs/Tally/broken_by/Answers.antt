-- One more frame is broken, and one more has opened where the judge is within one again: as the two counting calls promise.
use borrow.Author.Rules.{rules}
use Rattle.frame_tally.proofs.Tally.broken_by.Goals as goal

pub returns : goal.returns
returns c = simp (c.opening-frames.ensures, c.one_more-broken.ensures)
