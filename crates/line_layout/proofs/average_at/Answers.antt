-- EOF's rules as a list are pixels at even places as far as averages reach; these stay inside the image, so the sum cannot overflow.
use mathlib.Core.Path.{sym}
use native.Mathlib.Omega.{arith}
use Rattle.profile.specs.LayoutLaws.{body_small, image_centred}
use Rattle.line_layout.proofs.PlaceLaws.{averages_inside, average_places}
use Rattle.line_layout.proofs.average_at.Goals as goal

pub overflow_add-start : goal.overflow_add-start
overflow_add-start c =
    let p = c.args.profile in
    omega (arith, image_centred p, body_small p, averages_inside p)

pub returns : goal.returns
returns c =
    let a = c.args in
    simp (c.at_even.ensures, c.within.ensures, c.averages.ensures, c.image_start-start.ensures)
    (sym (average_places a.profile a.place))
