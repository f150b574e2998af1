-- Whether the line opens a frame decides: then place 1 is due, else the judge goes on waiting.
use borrow.Author.Rules.{rules}
use Rattle.frame_judge.proofs.first.Goals as goal

pub returns-then-opens : goal.returns-then-opens
returns-then-opens c = simp (← c.opens.ensures, c.if-opens.true)

pub returns : goal.returns
returns c = simp (← c.opens.ensures, c.if-opens.false)
