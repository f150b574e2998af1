-- The kind at the place, and its number, are what the two calls promise; the number given is compared with that.
use borrow.Author.Rules.{rules}
use Rattle.frame_layout.proofs.Borders.stands_at.Goals as goal

pub returns : goal.returns
returns c = simp (c.number.ensures, c.kind_at_place.ensures)
