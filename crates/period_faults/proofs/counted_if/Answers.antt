-- By the test.
use borrow.Author.Rules.{rules}
use Rattle.period_faults.proofs.counted_if.Goals as goal

pub returns-then-so : goal.returns-then-so
returns-then-so c = simp (c.if-so.true, c.one_more.ensures)
