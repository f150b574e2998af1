-- 18 in both cases; whether the line opens a frame decides if place 1 is due then or the judge waits.
use borrow.Author.Rules.{rules}
use Rattle.frame_judge.proofs.astray.Goals as goal

pub returns-then-opens : goal.returns-then-opens
returns-then-opens c = simp (c.refused.ensures, ← c.opens.ensures, c.if-opens.true)

pub returns : goal.returns
returns c = simp (c.refused-2.ensures, ← c.opens.ensures, c.if-opens.false)
