-- Each part as its own function gives it.
use borrow.Author.Rules.{rules}
use Rattle.mark_finder.proofs.Finder.locate.Goals as goal

pub returns : goal.returns
returns c = simp (c.place_behind-place.ensures, c.refusal_in-refusal.ensures, c.kind_before-before.ensures)
