-- A whole row is copied, or put in order, at the front of what follows the place; before that and behind the row nothing changes.
use borrow.Author.Tests.{eq-eqb}
use borrow.Author.Rules.{rules}
use Rattle.line_code.specs.declared.Kind.TheVariants.{VL}
use Rattle.line_code.specs.LineCode.{kind_number}
use Rattle.profile.specs.Profile.{width}
use Rattle.pixel_order.specs.declared.Way.TheVariants.{ToPixels}
use Rattle.pixel_order.specs.PixelOrder.{reordered}
use Rattle.pixel_order.proofs.PixelOrderLaws.{in_order_lem}
use Rattle.frame_row.proofs.Putting.{put_used}
use Rattle.frame_row.proofs.put_pixels.Goals as goal

pub returns-in-OddFirst : goal.returns-in-OddFirst
returns-in-OddFirst c =
    let pre = c.requires in
    let a = c.args in
    simp c.in-OddFirst.is
    (put_used a.rows.now _ a.at _ (reordered ToPixels a.body.now) width
    (in_order_lem ToPixels _ _ a.body.now (eq-eqb _ (kind_number VL) c.number.ensures) pre.0 (search rules)) c.to_pixels.ensures.leaves)
