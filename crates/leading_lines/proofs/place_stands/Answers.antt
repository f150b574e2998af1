-- By whether a frame opened.
use Rattle.leading_lines.specs.LeadingLines.{place_stands}
use borrow.Author.Rules.{rules}
use Rattle.leading_lines.proofs.place_stands.Goals as goal

pub returns-then-opened : goal.returns-then-opened
unfolding place_stands
returns-then-opened c = simp (c.if-opened.true, c.last_place.ensures)

pub returns : goal.returns
unfolding place_stands
returns c = simp c.if-opened.false
