-- By the judge's ruling: going, complete and broken by their functions, waiting keeps no rows, any other refusal changes nothing.
use borrow.Author.Rules.{rules}
use Rattle.frame_judge.specs.RulingLaws.{judge_given}
use Rattle.frame_rows.specs.FrameRows.{handed, refused_by}
use Rattle.frame_rows.proofs.Answering.{gives, quietly}
use Rattle.frame_rows.proofs.Gatherer.hand.Goals as goal

pub returns-then-breaks_frame : goal.returns-then-breaks_frame
unfolding handed refused_by
returns-then-breaks_frame c =
    simp (← judge_given _ _ c.line-judged.ensures, c.in-Refused.is, ← c.breaks_frame.ensures, c.if-breaks_frame.true) c.after_break.ensures

pub returns-in-Waiting : goal.returns-in-Waiting
unfolding handed
returns-in-Waiting c = gives _ _ _ _ _ (quietly c.quiet.ensures c.moved.ensures) (simp (← judge_given _ _ c.line-judged.ensures, c.in-Waiting.is))

pub returns-in-Going : goal.returns-in-Going
unfolding handed
returns-in-Going c =
    simp (← judge_given _ _ c.line-judged.ensures, c.in-Going.is, ← c.place_due-place.ensures) c.keep_row.ensures

pub returns-in-Complete : goal.returns-in-Complete
unfolding handed
returns-in-Complete c =
    simp (← judge_given _ _ c.line-judged.ensures, c.in-Complete.is, ← c.place_due-place.ensures) c.completed.ensures

pub returns-else-breaks_frame : goal.returns-else-breaks_frame
unfolding handed refused_by
returns-else-breaks_frame c =
    gives _ _ _ _ _ c.refused.ensures
    (simp (← judge_given _ _ c.line-judged.ensures, c.in-Refused.is, ← c.breaks_frame.ensures, c.if-breaks_frame.false))
