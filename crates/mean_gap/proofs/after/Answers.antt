-- By the answer.
use Rattle.mean_gap.specs.AwaitedGap.{awaits_after}
use borrow.Author.Rules.{rules}
use Rattle.mean_gap.proofs.after.Goals as goal

pub returns-in-Nothing : goal.returns-in-Nothing
unfolding awaits_after
returns-in-Nothing c = simp c.in-Nothing.is

pub returns-in-Line : goal.returns-in-Line
unfolding awaits_after
returns-in-Line c = simp (c.in-Line.is, c.after_line.ensures)

pub returns-in-Gap : goal.returns-in-Gap
unfolding awaits_after
returns-in-Gap c = simp c.in-Gap.is

pub returns-in-Refused : goal.returns-in-Refused
unfolding awaits_after
returns-in-Refused c = simp c.in-Refused.is
