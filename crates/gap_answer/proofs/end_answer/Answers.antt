-- By what the mark before was: after no line it is 8; after a line, refused or handed out, the gap decides, by that line's kind.
use borrow.Author.Rules.{rules}
use Rattle.gap_answer.proofs.end_answer.Goals as goal

pub returns-in-NoLine : goal.returns-in-NoLine
returns-in-NoLine c = simp c.in-NoLine.is

pub returns-in-RefusedLine : goal.returns-in-RefusedLine
returns-in-RefusedLine c = simp (c.in-RefusedLine.is, c.gap_answer.ensures)

pub returns-in-HandedOut : goal.returns-in-HandedOut
returns-in-HandedOut c = simp (c.in-HandedOut.is, c.gap_answer-in-HandedOut.ensures)
