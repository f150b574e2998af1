-- By the length, the first byte, the second, and then what follows.
use mathlib.Core.Path.{sym, ap₂, ◌∙◌}
use Rattle.profile.specs.Layout.{allows}
use Rattle.reason.proofs.Steps.{gap_short, two_good, two_second, two_first}
use Rattle.reason.proofs.two_bytes_reason.Goals as goal

pub returns-then-gap-lt4 : goal.returns-then-gap-lt4
returns-then-gap-lt4 c = sym (gap_short c.args.kind c.args.gap.now c.if-gap-lt4.true)

pub returns-then-allows-2 : goal.returns-then-allows-2
returns-then-allows-2 c =
    let a = c.args in
    c.stray_reason.ensures
    ∙ sym (two_good a.kind a.gap.now c.if-gap-lt4.false
    (ap₂ allows (sym c.gap_rule-rule.ensures) (sym c.pair_at-first.ensures) ∙ sym c.allows.ensures ∙ c.if-allows.true)
    (ap₂ allows (sym c.gap_rule-rule.ensures) (sym c.pair_at-second.ensures) ∙ sym c.allows-then-allows.ensures ∙ c.if-allows-2.true))

pub returns-then-allows : goal.returns-then-allows
returns-then-allows c =
    let a = c.args in
    sym (two_second a.kind a.gap.now c.if-gap-lt4.false
    (ap₂ allows (sym c.gap_rule-rule.ensures) (sym c.pair_at-first.ensures) ∙ sym c.allows.ensures ∙ c.if-allows.true)
    (ap₂ allows (sym c.gap_rule-rule.ensures) (sym c.pair_at-second.ensures) ∙ sym c.allows-then-allows.ensures ∙ c.if-allows-2.false))

pub returns : goal.returns
returns c =
    let a = c.args in
    sym (two_first a.kind a.gap.now c.if-gap-lt4.false
    (ap₂ allows (sym c.gap_rule-rule.ensures) (sym c.pair_at-first.ensures) ∙ sym c.allows.ensures ∙ c.if-allows.false))
