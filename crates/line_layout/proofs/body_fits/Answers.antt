-- At each turn the lengths are equal, and the whole body fits exactly where the bytes left fit the rules left; the bytes left fall.
use mathlib.Core.Path.{refl, sym, ◌∙◌}
use native.Mathlib.Omega.{arith}
use Rattle.profile.specs.Layout.{rules}
use Rattle.profile.specs.LayoutLaws.{rules_length}
use Rattle.line_layout.proofs.Fits.{fits_unequal, fits_step, fits_end}
use Rattle.line_layout.proofs.body_fits.Goals as goal

pub returns-then-body-body_length : goal.returns-then-body-body_length
returns-then-body-body_length c =
    let a = c.args in
    let e = c.body_length.ensures ∙ sym (rules_length a.profile a.kind) in
    sym (fits_unequal (rules a.profile a.kind) a.body.now (λ q. c.if-body-body_length.true (q ∙ sym e)))

pub loop-i-init : goal.loop-i-init
loop-i-init c =
    let a = c.args in
    (c.if-body-body_length.false ∙ c.body_length.ensures ∙ sym (rules_length a.profile a.kind), refl)

pub loop-i-preserved : goal.loop-i-preserved
loop-i-preserved c =
    let l = c.loop-i.invariant in
    (l.0, l.1 ∙ fits_step _ _ _ l.0 (omega arith) ∙ simp (← c.rule_at-rule.ensures, ← c.allows.ensures, c.if-not-allows.false))

pub returns-then-not-allows : goal.returns-then-not-allows
returns-then-not-allows c =
    let l = c.loop-i.invariant in
    sym (l.1 ∙ fits_step _ _ _ l.0 (omega arith) ∙ simp (← c.rule_at-rule.ensures, ← c.allows.ensures, c.if-not-allows.true))

pub returns : goal.returns
returns c =
    let l = c.loop-i.invariant in
    sym (l.1 ∙ fits_end _ _ _ l.0 (omega arith))
