-- By the tests: not outside, before the first frame, later.
use borrow.Author.Tests.{eq-eqb, ne_eqb}
use Rattle.findings.specs.Findings.{with_line}
use borrow.Author.Rules.{rules}
use Rattle.findings.proofs.Outside.with.Goals as goal

pub returns-then-before-eq0 : goal.returns-then-before-eq0
unfolding with_line
returns-then-before-eq0 c = simp (← c.is_outside.ensures, c.if-is_outside.true, eq-eqb _ _ c.if-before-eq0.true, c.one_more.ensures)

pub returns-then-is_outside : goal.returns-then-is_outside
unfolding with_line
returns-then-is_outside c = simp (← c.is_outside.ensures, c.if-is_outside.true, ne_eqb _ _ c.if-before-eq0.false, c.one_more-then-is_outside.ensures)

pub returns : goal.returns
unfolding with_line
returns c = simp (← c.is_outside.ensures, c.if-is_outside.false)
