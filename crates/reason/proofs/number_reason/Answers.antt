-- The first number byte, then the second, then the body.
use mathlib.Core.Path.{sym, ap, ◌∙◌}
use Rattle.line_number.specs.LineNumber.{number_good}
use Rattle.reason.specs.declared.Reason.TheVariants.{BadNumber}
use Rattle.reason.specs.Explanation.{pair_at, line_from_body}
use Rattle.reason.proofs.Steps.{numbers_good, second_bad, first_bad}
use Rattle.reason.proofs.number_reason.Goals as goal

pub returns-then-is_good-2 : goal.returns-then-is_good-2
returns-then-is_good-2 c =
    let a = c.args in
    let t = a.text.now in
    c.body_reason.ensures
    ∙ sym (numbers_good (pair_at t 2) (pair_at t 4) (line_from_body a.profile a.kind t a.next)
    (ap number_good (sym c.pair_at-high.ensures) ∙ sym c.is_good.ensures ∙ c.if-is_good.true)
    (ap number_good (sym c.pair_at-low.ensures) ∙ sym c.is_good-then-is_good.ensures ∙ c.if-is_good-2.true))

pub returns-then-is_good : goal.returns-then-is_good
returns-then-is_good c =
    let a = c.args in
    let t = a.text.now in
    sym (second_bad (pair_at t 2) (pair_at t 4) (line_from_body a.profile a.kind t a.next)
    (ap number_good (sym c.pair_at-high.ensures) ∙ sym c.is_good.ensures ∙ c.if-is_good.true)
    (ap number_good (sym c.pair_at-low.ensures) ∙ sym c.is_good-then-is_good.ensures ∙ c.if-is_good-2.false)
    ∙ ap (BadNumber 1) (sym c.pair_at-low.ensures))

pub returns : goal.returns
returns c =
    let a = c.args in
    let t = a.text.now in
    sym (first_bad (pair_at t 2) (pair_at t 4) (line_from_body a.profile a.kind t a.next)
    (ap number_good (sym c.pair_at-high.ensures) ∙ sym c.is_good.ensures ∙ c.if-is_good.false)
    ∙ ap (BadNumber 0) (sym c.pair_at-high.ensures))
