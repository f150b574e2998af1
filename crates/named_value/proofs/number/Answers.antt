-- At each turn the number is that of the digits so far.
use mathlib.Core.Path.{refl, sym, ap, ◌∙◌}
use Rattle.std.proofs.lemmas.List.{take_rest}
use lib.ListN.{drop_of_length-le}
use Rattle.named_value.specs.Number.{digits_onto}
use Rattle.named_value.specs.NumberLaws.{number_starts, digits_step}
use Rattle.named_value.proofs.number.Goals as goal

pub returns-then-line-at : goal.returns-then-line-at
returns-then-line-at c = rw (drop_of_length-le c.args.line.now c.if-line-at.true)

pub loop-c-init : goal.loop-c-init
loop-c-init c = refl

pub loop-c-preserved : goal.loop-c-preserved
loop-c-preserved c = c.loop-c.invariant ∙ digits_step _ _ c.loop-c-test.true _ ∙ simp c.digit_onto-n.ensures

pub returns : goal.returns
returns c =
    let line = c.args.line.now in
    let at = c.args.at in
    sym (number_starts line at c.if-line-at.false
    ∙ ap (digits_onto 0) (sym (take_rest line at))
    ∙ c.loop-c.invariant
    ∙ rw (drop_of_length-le _ c.loop-c-test.false))
