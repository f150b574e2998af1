-- By whether the next code reads as end of line.
use Rattle.reason.specs.Explanation.{next_reason}
use Rattle.reason.proofs.next_reason.Goals as goal

pub returns-then-is_end : goal.returns-then-is_end
unfolding next_reason
returns-then-is_end c = simp (← c.read-reading.ensures, ← c.is_end.ensures, c.if-is_end.true)

pub returns : goal.returns
unfolding next_reason
returns c = simp (← c.read-reading.ensures, ← c.is_end.ensures, c.if-is_end.false)
