-- By what is kept: a visible line's pixels, nothing of any other; or the line whole.
use mathlib.Core.Path.{◌≡◌, sym, ◌∙◌}
use native.Mathlib.Omega.{arith}
use borrow.Author.Tests.{eq-eqb, ne_eqb}
use Rattle.line_code.specs.declared.Kind.TheVariants.{VL}
use Rattle.line_code.specs.LineCode.{kind_number}
use Rattle.profile.specs.Profile.{width}
use Rattle.line_records.specs.Lines.{line_size}
use Rattle.frame_row.specs.FrameRow.{row_size}
use Rattle.frame_row.proofs.Putting.{with_pixels, with_nothing, with_line_lem}
use Rattle.frame_row.proofs.put_row.Goals as goal

pub put_pixels-requires : goal.put_pixels-requires
put_pixels-requires c =
    let size : row_size c.args.keeping c.args.kind ≡ width = simp (c.in-VisiblePixels.is, eq-eqb _ (kind_number VL) (c.if-kind-number.true ∙ c.number.ensures)) in
    (c.requires.0, omega (arith, c.requires.1, size))

pub put_line-requires : goal.put_line-requires
put_line-requires c =
    let size : row_size c.args.keeping c.args.kind ≡ line_size = simp c.in-WholeLines.is in
    (c.requires.0, omega (arith, c.requires.1, size))

pub returns-then-kind-number : goal.returns-then-kind-number
returns-then-kind-number c =
    let a = c.args in
    c.put_pixels.ensures
    ∙ sym (with_pixels c.in-VisiblePixels.is a.at a.place a.kind a.body.now a.rows.now (eq-eqb a.kind (kind_number VL) (c.if-kind-number.true ∙ c.number.ensures)))

pub returns-else-kind-number : goal.returns-else-kind-number
returns-else-kind-number c =
    let a = c.args in
    sym (with_nothing c.in-VisiblePixels.is a.at a.place a.kind a.body.now a.rows.now (ne_eqb a.kind (kind_number VL) (λ e. c.if-kind-number.false (e ∙ sym c.number.ensures))))

pub returns-in-WholeLines : goal.returns-in-WholeLines
returns-in-WholeLines c =
    let a = c.args in
    c.put_line.ensures ∙ sym (with_line_lem c.in-WholeLines.is a.at a.place a.kind a.body.now a.rows.now)
