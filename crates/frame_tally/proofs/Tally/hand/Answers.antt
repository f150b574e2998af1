-- By the judge's ruling: waiting and going bring no news; a complete frame and a refusal are told by their own functions.
use Rattle.frame_tally.specs.Tally.{handed}
use borrow.Author.Rules.{rules}
use Rattle.frame_judge.specs.RulingLaws.{judge_given}
use Rattle.frame_tally.proofs.Tally.hand.Goals as goal

pub returns-in-Waiting : goal.returns-in-Waiting
unfolding handed
returns-in-Waiting c = simp (← judge_given _ _ c.line-judged.ensures, c.in-Waiting.is, c.quiet.ensures, c.moved.ensures)

pub returns-in-Going : goal.returns-in-Going
unfolding handed
returns-in-Going c = simp (← judge_given _ _ c.line-judged.ensures, c.in-Going.is, c.quiet-in-Going.ensures, c.moved-in-Going.ensures)

pub returns-in-Complete : goal.returns-in-Complete
unfolding handed
returns-in-Complete c = simp (← judge_given _ _ c.line-judged.ensures, c.in-Complete.is, c.completed.ensures)

pub returns-in-Refused : goal.returns-in-Refused
unfolding handed
returns-in-Refused c = simp (← judge_given _ _ c.line-judged.ensures, c.in-Refused.is, c.refused.ensures)
