-- Each refusal by its test, after the tests before it; with all passed, what is said of the two sums.
use mathlib.Core.Path.{sym, ◌∙◌}
use borrow.Author.Tests.{eq-eqb, ne_eqb}
use Rattle.half_means.specs.HalfMeans.{half_values, require, beside_of, first_sum, second_sum}
use Rattle.half_means.specs.HalfMeansLaws.{passed}
use Rattle.half_means.proofs.of_line.Goals as goal

pub returns-then-profile-ne-VV5300 : goal.returns-then-profile-ne-VV5300
unfolding half_values require
returns-then-profile-ne-VV5300 c = simp (ne_eqb _ _ c.if-profile-ne-VV5300.true)

pub returns-then-kind-number : goal.returns-then-kind-number
unfolding half_values require
returns-then-kind-number c = simp (eq-eqb _ _ c.if-profile-ne-VV5300.false, ← c.number.ensures, ne_eqb _ _ c.if-kind-number.true)

pub returns-then-body-body_length : goal.returns-then-body-body_length
unfolding half_values require
returns-then-body-body_length c =
    simp (eq-eqb _ _ c.if-profile-ne-VV5300.false, ← c.number.ensures, eq-eqb _ _ c.if-kind-number.false, ← c.body_length.ensures, ne_eqb _ _ c.if-body-body_length.true)

pub returns-then-gap_fits : goal.returns-then-gap_fits
unfolding first_sum second_sum
returns-then-gap_fits c =
    let a = c.args in
    c.beside-halves.ensures
    ∙ (λ i. beside_of (c.half_sum.ensures i) (c.half_sum-then-gap_fits.ensures i) a.first a.second)
    ∙ sym
    (passed a.profile a.kind a.body.now a.first a.second
    c.if-profile-ne-VV5300.false
    (c.if-kind-number.false ∙ c.number.ensures)
    (c.if-body-body_length.false ∙ c.body_length.ensures)
    (sym c.body_fits.ensures ∙ c.if-body_fits.true)
    (sym c.gap_fits.ensures ∙ c.if-gap_fits.true))

pub returns-else-gap_fits : goal.returns-else-gap_fits
unfolding half_values require
returns-else-gap_fits c =
    simp (
      eq-eqb _ _ c.if-profile-ne-VV5300.false,
      ← c.number.ensures,
      eq-eqb _ _ c.if-kind-number.false,
      ← c.body_length.ensures,
      eq-eqb _ _ c.if-body-body_length.false,
      ← c.body_fits.ensures,
      c.if-body_fits.true,
      ← c.gap_fits.ensures,
      c.if-gap_fits.false,
    )

pub returns-else-body_fits : goal.returns-else-body_fits
unfolding half_values require
returns-else-body_fits c =
    simp (
      eq-eqb _ _ c.if-profile-ne-VV5300.false,
      ← c.number.ensures,
      eq-eqb _ _ c.if-kind-number.false,
      ← c.body_length.ensures,
      eq-eqb _ _ c.if-body-body_length.false,
      ← c.body_fits.ensures,
      c.if-body_fits.false,
    )
