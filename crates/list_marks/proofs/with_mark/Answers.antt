-- One more exactly where there is an answer.
use borrow.Author.Rules.{rules}
use Rattle.list_marks.proofs.with_mark.Goals as goal

pub returns-then-is_answer : goal.returns-then-is_answer
returns-then-is_answer c = simp (← c.is_answer.ensures, c.if-is_answer.true, c.one_more.ensures)

pub returns : goal.returns
returns c = simp (← c.is_answer.ensures, c.if-is_answer.false)
