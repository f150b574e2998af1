-- At each turn the texts so far were alike, and what is left of them decides.
use mathlib.Core.Path.{refl, sym, ◌∙◌}
use borrow.Author.Rules.{rules}
use Rattle.saved_text.specs.SettingsTextLaws.{like_step, like_end}
use Rattle.saved_text.proofs.is_like.Goals as goal

pub loop-c-init : goal.loop-c-init
loop-c-init c = (search rules, refl)

pub loop-c-preserved : goal.loop-c-preserved
loop-c-preserved c =
    let a = c.args in
    (search rules, c.loop-c.invariant.1 ∙ like_step a.text.now c.loop-c.c-index c.loop-c-test.true a.whole.now c.loop-c.at ∙ simp (← c.stands.ensures, c.if-not-stands.false, c.covers-at.ensures.0))

pub returns-then-not-stands : goal.returns-then-not-stands
returns-then-not-stands c =
    let a = c.args in
    sym (c.loop-c.invariant.1 ∙ like_step a.text.now c.loop-c.c-index c.loop-c-test.true a.whole.now c.loop-c.at ∙ simp (← c.stands.ensures, c.if-not-stands.true))

pub returns : goal.returns
returns c = c.at_most_newline.ensures ∙ sym (c.loop-c.invariant.1 ∙ like_end _ _ _ c.loop-c-test.false)
