-- The words of the kind that it is, by the tests before; any other byte in decimal.
use mathlib.Core.Path.{sym, ◌∙◌}
use borrow.Author.Tests.{eq-eqb, ne_eqb}
use Rattle.line_code.specs.declared.Kind.TheVariants.{BL, BK, VL, SOF, EOF}
use Rattle.line_code.specs.LineCode.{kind_number}
use Rattle.diff_change_row.specs.ChangeRow.{kind_word}
use Rattle.diff_change_row.proofs.put_kind.Goals as goal

pub returns-then-kind-number : goal.returns-then-kind-number
unfolding kind_word
returns-then-kind-number c =
    simp (eq-eqb _ (kind_number BL) (c.if-kind-number.true ∙ c.number.ensures)) c.put.ensures

pub returns-then-kind-number-2 : goal.returns-then-kind-number-2
unfolding kind_word
returns-then-kind-number-2 c =
    simp (ne_eqb _ (kind_number BL) (λ e. c.if-kind-number.false (e ∙ sym c.number.ensures)), eq-eqb _ (kind_number BK) (c.if-kind-number-2.true ∙ c.number-2.ensures)) c.put-then-kind-number-2.ensures

pub returns-then-kind-number-3 : goal.returns-then-kind-number-3
unfolding kind_word
returns-then-kind-number-3 c =
    simp (ne_eqb _ (kind_number BL) (λ e. c.if-kind-number.false (e ∙ sym c.number.ensures)), ne_eqb _ (kind_number BK) (λ e. c.if-kind-number-2.false (e ∙ sym c.number-2.ensures)), eq-eqb _ (kind_number VL) (c.if-kind-number-3.true ∙ c.number-3.ensures)) c.put-then-kind-number-3.ensures

pub returns-then-kind-number-4 : goal.returns-then-kind-number-4
unfolding kind_word
returns-then-kind-number-4 c =
    simp (ne_eqb _ (kind_number BL) (λ e. c.if-kind-number.false (e ∙ sym c.number.ensures)), ne_eqb _ (kind_number BK) (λ e. c.if-kind-number-2.false (e ∙ sym c.number-2.ensures)), ne_eqb _ (kind_number VL) (λ e. c.if-kind-number-3.false (e ∙ sym c.number-3.ensures)), eq-eqb _ (kind_number SOF) (c.if-kind-number-4.true ∙ c.number-4.ensures)) c.put-then-kind-number-4.ensures

pub returns-then-kind-number-5 : goal.returns-then-kind-number-5
unfolding kind_word
returns-then-kind-number-5 c =
    simp (ne_eqb _ (kind_number BL) (λ e. c.if-kind-number.false (e ∙ sym c.number.ensures)), ne_eqb _ (kind_number BK) (λ e. c.if-kind-number-2.false (e ∙ sym c.number-2.ensures)), ne_eqb _ (kind_number VL) (λ e. c.if-kind-number-3.false (e ∙ sym c.number-3.ensures)), ne_eqb _ (kind_number SOF) (λ e. c.if-kind-number-4.false (e ∙ sym c.number-4.ensures)), eq-eqb _ (kind_number EOF) (c.if-kind-number-5.true ∙ c.number-5.ensures)) c.put-then-kind-number-5.ensures

pub returns : goal.returns
unfolding kind_word
returns c =
    simp (ne_eqb _ (kind_number BL) (λ e. c.if-kind-number.false (e ∙ sym c.number.ensures)), ne_eqb _ (kind_number BK) (λ e. c.if-kind-number-2.false (e ∙ sym c.number-2.ensures)), ne_eqb _ (kind_number VL) (λ e. c.if-kind-number-3.false (e ∙ sym c.number-3.ensures)), ne_eqb _ (kind_number SOF) (λ e. c.if-kind-number-4.false (e ∙ sym c.number-4.ensures)), ne_eqb _ (kind_number EOF) (λ e. c.if-kind-number-5.false (e ∙ sym c.number-5.ensures))) c.put_decimal.ensures
