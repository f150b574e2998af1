-- 0 stands for none; else the test picks the lesser.
use borrow.Author.Tests.{lt-ltb, le-ltb, eq-eqb, ne_eqb}
use Rattle.spacing.specs.Spacing.{lesser}
use Rattle.spacing.proofs.lesser.Goals as goal

pub returns-then-least-eq0 : goal.returns-then-least-eq0
unfolding lesser
returns-then-least-eq0 c = simp (eq-eqb _ _ c.if-least-eq0.true)

pub returns-then-n-least : goal.returns-then-n-least
unfolding lesser
returns-then-n-least c = simp (ne_eqb _ _ c.if-least-eq0.false, lt-ltb _ _ c.if-n-least.true)

pub returns : goal.returns
unfolding lesser
returns c = simp (ne_eqb _ _ c.if-least-eq0.false, le-ltb _ _ c.if-n-least.false)
