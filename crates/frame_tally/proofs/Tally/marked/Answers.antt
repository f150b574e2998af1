-- Only the count of marks changes, to one more; the judge and the other counts are copied.
use borrow.Author.Rules.{rules}
use Rattle.frame_tally.proofs.Tally.marked.Goals as goal

pub returns : goal.returns
returns c = simp c.one_more-marks.ensures
