-- A pixel of another line than the last makes one line more.
use borrow.Author.Tests.{eq-eqb, ne_eqb}
use Rattle.diff_summary.specs.Summary.{lines_with}
use Rattle.diff_summary.proofs.Summary.lines_with.Goals as goal

pub returns-then-self-eq0 : goal.returns-then-self-eq0
unfolding lines_with
returns-then-self-eq0 c = simp (eq-eqb _ _ c.if-self-eq0.true)

pub returns-then-number-self : goal.returns-then-number-self
unfolding lines_with
returns-then-number-self c = simp (ne_eqb _ _ c.if-self-eq0.false, eq-eqb _ _ c.if-number-self.true)

pub returns : goal.returns
unfolding lines_with
returns c = simp (ne_eqb _ _ c.if-self-eq0.false, ne_eqb _ _ c.if-number-self.false) c.one_more.ensures
