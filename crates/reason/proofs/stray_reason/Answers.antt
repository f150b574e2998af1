-- Nibble after nibble: all before the place reached are F; another ends it.
use mathlib.Core.Path.{refl, sym, ◌∙◌}
use borrow.Author.Tests.{eq-eqb, ne_eqb}
use Rattle.reason.proofs.Steps.{stray_step, stray_end}
use Rattle.reason.proofs.stray_reason.Goals as goal

pub loop-i-init : goal.loop-i-init
loop-i-init c = refl

pub returns-then-gap-i-ne15 : goal.returns-then-gap-i-ne15
returns-then-gap-i-ne15 c = sym (c.loop-i.invariant ∙ stray_step _ _ c.loop-i-test.true ∙ simp (ne_eqb _ _ c.if-gap-i-ne15.true))

pub loop-i-preserved : goal.loop-i-preserved
loop-i-preserved c = c.loop-i.invariant ∙ stray_step _ _ c.loop-i-test.true ∙ simp (eq-eqb _ _ c.if-gap-i-ne15.false)

pub returns : goal.returns
returns c = sym (c.loop-i.invariant ∙ stray_end _ _ c.loop-i-test.false)
