-- By its kind.
use borrow.Author.Tests.{eq-eqb, ne_eqb}
use Rattle.leading_lines.specs.LeadingLines.{first_blanks}
use borrow.Author.Rules.{rules}
use Rattle.leading_lines.proofs.first_blanks.Goals as goal

pub returns-then-kind-number : goal.returns-then-kind-number
unfolding first_blanks
returns-then-kind-number c = simp (← c.number.ensures, eq-eqb _ _ c.if-kind-number.true)

pub returns : goal.returns
unfolding first_blanks
returns c = simp (← c.number.ensures, ne_eqb _ _ c.if-kind-number.false)
