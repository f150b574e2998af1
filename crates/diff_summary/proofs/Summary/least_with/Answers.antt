-- The first pixel sets it.
use borrow.Author.Tests.{eq-eqb, ne_eqb}
use Rattle.diff_summary.specs.Summary.{least_with}
use Rattle.diff_summary.proofs.Summary.least_with.Goals as goal

pub returns-then-self-eq0 : goal.returns-then-self-eq0
unfolding least_with
returns-then-self-eq0 c = simp (eq-eqb _ _ c.if-self-eq0.true)

pub returns : goal.returns
unfolding least_with
returns c = simp (ne_eqb _ _ c.if-self-eq0.false)
