-- What handed_over has of the answer goes to the judge, with the mark counted and its own answer, as the calls promise; else there is no news.
use Rattle.frame_tally.specs.Tally.{take_of}
use borrow.Author.Rules.{rules}
use Rattle.frame_tally.proofs.Tally.take.Goals as goal

pub returns-in-None : goal.returns-in-None
unfolding take_of
returns-in-None c = simp (← c.handed_over.ensures, c.in-None.is, c.quiet.ensures, c.marked_by-tally.ensures)

pub returns-in-Some : goal.returns-in-Some
unfolding take_of
returns-in-Some c = simp (← c.handed_over.ensures, c.in-Some.is, c.hand.ensures, c.own_answer.ensures, c.marked_by-tally.ensures)
