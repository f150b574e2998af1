-- While waiting only an opening line counts; within a frame line_due tells the line due from one that is astray.
use borrow.Author.Rules.{rules}
use Rattle.frame_judge.proofs.Judge.whole.Goals as goal

pub returns-then-line_due : goal.returns-then-line_due
returns-then-line_due c = simp (c.in-Due.is, ← c.line_due.ensures, c.if-line_due.true, c.take_due.ensures)

pub returns-in-Waiting : goal.returns-in-Waiting
returns-in-Waiting c = simp (c.in-Waiting.is, c.first.ensures)

pub returns-else-line_due : goal.returns-else-line_due
returns-else-line_due c = simp (c.in-Due.is, ← c.line_due.ensures, c.if-line_due.false, c.astray.ensures)
