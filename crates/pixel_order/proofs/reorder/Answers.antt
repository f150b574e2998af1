-- The tests come in the paper's order: 23, 15, 12; past them the line is put in order, 356 bytes of it.
use mathlib.Core.Path.{sym, ◌∙◌}
use borrow.Author.Tests.{eq-eqb, ne_eqb, lt-leb}
use Rattle.line_code.specs.declared.Kind.TheVariants.{VL}
use Rattle.line_code.specs.LineCode.{kind_number}
use Rattle.profile.specs.Profile.{width}
use Rattle.lent_buffer.specs.Filled.{require}
use Rattle.lent_buffer.specs.FilledLaws.{refuses, fills}
use Rattle.pixel_order.specs.PixelOrder.{reorder_of}
use Rattle.pixel_order.proofs.PixelOrderLaws.{reordered_length, in_order_lem}
use Rattle.pixel_order.proofs.reorder.Goals as goal

pub returns-then-kind-number : goal.returns-then-kind-number
unfolding reorder_of require
returns-then-kind-number c = refuses _ _ _ (simp (ne_eqb _ (kind_number VL) (λ e. c.if-kind-number.true (e ∙ sym c.number.ensures))))

pub returns-then-from-ne-WIDTH : goal.returns-then-from-ne-WIDTH
unfolding reorder_of require
returns-then-from-ne-WIDTH c = refuses _ _ _ (simp (eq-eqb _ (kind_number VL) (c.if-kind-number.false ∙ c.number.ensures), ne_eqb _ width c.if-from-ne-WIDTH.true))

pub returns-then-to-lt-WIDTH : goal.returns-then-to-lt-WIDTH
unfolding reorder_of require
returns-then-to-lt-WIDTH c =
    let a = c.args in
    refuses _ _ _
    (simp (eq-eqb _ (kind_number VL) (c.if-kind-number.false ∙ c.number.ensures), eq-eqb _ width c.if-from-ne-WIDTH.false, reordered_length a.way a.from.now, lt-leb _ _ c.if-to-lt-WIDTH.true))

pub returns : goal.returns
returns c =
    let number = c.number in
    let a = c.args in
    fills _ _ _ _ _
    (in_order_lem a.way a.kind _ a.from.now (eq-eqb _ (kind_number VL) (c.if-kind-number.false ∙ number.ensures)) c.if-from-ne-WIDTH.false c.if-to-lt-WIDTH.false)
    (reordered_length a.way a.from.now)
    c.put.ensures
