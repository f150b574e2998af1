-- BK's rules as a list are pixels within the image and its border, and the border is no wider than the space before the image.
use mathlib.Core.Path.{sym}
use native.Mathlib.Omega.{arith}
use Rattle.line_layout.proofs.PlaceLaws.{border_outside, pixel_places}
use Rattle.line_layout.proofs.pixel_at.Goals as goal

pub image_at-requires : goal.image_at-requires
image_at-requires c = omega (arith, border_outside c.args.profile)

pub returns : goal.returns
returns c = simp (c.image_at.ensures, c.border.ensures) (sym (pixel_places c.args.profile c.args.place))
