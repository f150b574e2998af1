-- Before the last place the next place is one more, with the borders as settled_by has them; at the last the frame is complete.
use borrow.Author.Tests.{lt-ltb, le-ltb}
use borrow.Author.Rules.{rules}
use Rattle.frame_judge.proofs.take_due.Goals as goal

pub returns-then-place-last_place : goal.returns-then-place-last_place
returns-then-place-last_place c = simp (← c.last_place.ensures, lt-ltb _ _ c.if-place-last_place.true, c.settled_by-next.ensures)

pub returns : goal.returns
returns c = simp (← c.last_place.ensures, le-ltb _ _ c.if-place-last_place.false)
