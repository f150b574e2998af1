-- What handed_over has of the answer goes to the judge, as hand promises; where that is nothing the gatherer stays as it was.
use borrow.Author.Rules.{rules}
use Rattle.frame_rows.specs.FrameRows.{take_of}
use Rattle.frame_rows.proofs.Answering.{gives}
use Rattle.frame_rows.proofs.Gatherer.take.Goals as goal

pub returns-in-None : goal.returns-in-None
unfolding take_of
returns-in-None c = gives _ _ _ _ _ c.quiet.ensures (simp (← c.handed_over.ensures, c.in-None.is))

pub returns-in-Some : goal.returns-in-Some
unfolding take_of
returns-in-Some c =
    let over = c.handed_over in
    simp (← over.ensures, c.in-Some.is) c.hand.ensures
