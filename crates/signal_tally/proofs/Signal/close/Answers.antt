-- A cut is not counted; any other answer is taken as a call's.
use Rattle.signal_tally.specs.Signal.{close_of}
use borrow.Author.Rules.{rules}
use Rattle.signal_tally.proofs.Signal.close.Goals as goal

pub returns-then-is_cut : goal.returns-then-is_cut
unfolding close_of
returns-then-is_cut c = simp (← c.is_cut.ensures, c.if-is_cut.true, c.with_first.ensures, c.seen.ensures)

pub returns : goal.returns
unfolding close_of
returns c = simp (← c.is_cut.ensures, c.if-is_cut.false, c.take.ensures)
