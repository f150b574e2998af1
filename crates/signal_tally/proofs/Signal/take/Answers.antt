-- By the answer; a refusal by whether it is the first mark's.
use Rattle.signal_tally.specs.Signal.{take_of}
use borrow.Author.Rules.{rules}
use Rattle.signal_tally.proofs.Signal.take.Goals as goal

pub returns-then-is_start : goal.returns-then-is_start
unfolding take_of
returns-then-is_start c = simp (c.in-Refused.is, ← c.is_start.ensures, c.if-is_start.true, c.with_first.ensures)

pub returns-in-Nothing : goal.returns-in-Nothing
unfolding take_of
returns-in-Nothing c = simp c.in-Nothing.is

pub returns-in-Line : goal.returns-in-Line
unfolding take_of
returns-in-Line c = simp (c.in-Line.is, c.line.ensures)

pub returns-in-Gap : goal.returns-in-Gap
unfolding take_of
returns-in-Gap c = simp (c.in-Gap.is, c.gap.ensures)

pub returns-else-is_start : goal.returns-else-is_start
unfolding take_of
returns-else-is_start c = simp (c.in-Refused.is, ← c.is_start.ensures, c.if-is_start.false, c.refusal.ensures)
