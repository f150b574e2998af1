-- Each part by its own rule, of a first line or of one more.
use Rattle.leading_lines.specs.LeadingLines.{with_line}
use borrow.Author.Rules.{rules}
use Rattle.leading_lines.proofs.LeadingLines.with.Goals as goal

pub returns-then-self : goal.returns-then-self
unfolding with_line
returns-then-self c = simp (c.if-self.true, c.next_place.ensures, c.next_place-then-self.ensures, c.next_blanks.ensures)

pub returns : goal.returns
unfolding with_line
returns c = simp (c.if-self.false, c.first_place.ensures, c.first_place-2.ensures, c.first_blanks.ensures)
