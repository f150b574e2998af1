-- A damaged code is refused with 1; any other is judged by what it says.
use borrow.Author.Rules.{rules}
use Rattle.mark_answer.proofs.reading_answer.Goals as goal

pub returns-in-Says : goal.returns-in-Says
returns-in-Says c = simp (c.in-Says.is, c.meaning_answer.ensures)

pub returns-in-Damaged : goal.returns-in-Damaged
returns-in-Damaged c = simp c.in-Damaged.is
