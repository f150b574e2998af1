-- By whether it is one.
use borrow.Author.Tests.{eq-eqb, ne_eqb}
use borrow.Author.Rules.{rules}
use Rattle.signal_report.proofs.put_noun.Goals as goal

pub returns-then-count-eq1 : goal.returns-then-count-eq1
returns-then-count-eq1 c = simp (eq-eqb _ _ c.if-count-eq1.true) c.put.ensures

pub returns-else-count-eq1 : goal.returns-else-count-eq1
returns-else-count-eq1 c = simp (ne_eqb _ _ c.if-count-eq1.false) c.put-else-count-eq1.ensures
