-- By whether nothing is out of order.
use borrow.Author.Rules.{rules}
use Rattle.verdict_report.proofs.put_no_frame.Goals as goal

pub returns-then-ordered : goal.returns-then-ordered
returns-then-ordered c = simp c.if-ordered.true c.put.ensures

pub returns-else-ordered : goal.returns-else-ordered
returns-else-ordered c = simp c.if-ordered.false c.put-else-ordered.ensures
