-- 18 and 19 break the frame, as breaks_frame promises; any other refusal brings no news.
use Rattle.frame_tally.specs.Tally.{refused_by}
use borrow.Author.Rules.{rules}
use Rattle.frame_tally.proofs.Tally.refused.Goals as goal

pub returns-then-breaks_frame : goal.returns-then-breaks_frame
unfolding refused_by
returns-then-breaks_frame c = simp (← c.breaks_frame.ensures, c.if-breaks_frame.true, c.broken_by.ensures)

pub returns : goal.returns
unfolding refused_by
returns c = simp (← c.breaks_frame.ensures, c.if-breaks_frame.false, c.quiet.ensures, c.moved.ensures)
