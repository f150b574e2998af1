-- SOF's rules as a list allow any byte at the even places of the image, which here has no margin.
use mathlib.Core.Path.{sym}
use Rattle.line_layout.proofs.PlaceLaws.{register_places}
use Rattle.line_layout.proofs.register_at.Goals as goal

pub returns : goal.returns
returns c = simp (c.at_even.ensures, c.image_at.ensures) (sym (register_places c.args.profile c.args.place))
