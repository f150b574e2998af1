-- By the answer: Nothing leaves the tally as it is, any other counts a mark.
use borrow.Author.Rules.{rules}
use Rattle.frame_tally.proofs.Tally.marked_by.Goals as goal

pub returns-in-Line : goal.returns-in-Line
returns-in-Line c = simp (c.in-Line.is, c.marked.ensures)

pub returns-in-Gap : goal.returns-in-Gap
returns-in-Gap c = simp (c.in-Gap.is, c.marked-in-Gap.ensures)

pub returns-in-Refused : goal.returns-in-Refused
returns-in-Refused c = simp (c.in-Refused.is, c.marked-in-Refused.ensures)
