-- A visible line's row is 356 pixels and any other's none; or each is a line's 359 bytes.
use mathlib.Core.Path.{sym, ◌∙◌}
use borrow.Author.Tests.{eq-eqb, ne_eqb}
use Rattle.line_code.specs.declared.Kind.TheVariants.{VL}
use Rattle.line_code.specs.LineCode.{kind_number}
use Rattle.frame_row.proofs.row_size.Goals as goal

pub returns-then-kind-number : goal.returns-then-kind-number
returns-then-kind-number c = simp (c.in-VisiblePixels.is, eq-eqb _ (kind_number VL) (c.if-kind-number.true ∙ c.number.ensures))

pub returns-else-kind-number : goal.returns-else-kind-number
returns-else-kind-number c = simp (c.in-VisiblePixels.is, ne_eqb _ (kind_number VL) (λ e. c.if-kind-number.false (e ∙ sym c.number.ensures)))

pub returns-in-WholeLines : goal.returns-in-WholeLines
returns-in-WholeLines c = simp c.in-WholeLines.is
