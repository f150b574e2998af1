-- A margin no wider than the space before the image can be subtracted, and a body is short, so no sum overflows.
use native.Mathlib.Omega.{arith}
use Rattle.profile.specs.LayoutLaws.{body_small, image_centred}
use Rattle.line_layout.proofs.image_at.Goals as goal

pub overflow_add-start : goal.overflow_add-start
overflow_add-start c =
    let p = c.args.profile in
    omega (arith, image_centred p, body_small p)

pub overflow_add-start-2 : goal.overflow_add-start-2
overflow_add-start-2 c =
    let p = c.args.profile in
    omega (arith, image_centred p, body_small p)

pub returns : goal.returns
returns c = simp (c.within.ensures, c.image_length.ensures, c.image_start-start.ensures)
