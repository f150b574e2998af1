-- By the remainder, and the greatest count.
use borrow.Author.Tests.{eq-eqb, ne_eqb}
use borrow.Author.Rules.{rules}
use Rattle.period_faults.proofs.is_odd.Goals as goal

pub returns-then-period-eq1 : goal.returns-then-period-eq1
returns-then-period-eq1 c = simp (eq-eqb _ _ c.if-period-eq1.true)

pub returns : goal.returns
returns c = simp (ne_eqb _ _ c.if-period-eq1.false)
