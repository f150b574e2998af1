-- None stays none; one more blank line, up to the most.
use borrow.Author.Tests.{lt-ltb, le-ltb, eq-eqb, ne_eqb}
use Rattle.leading_lines.specs.LeadingLines.{next_blanks}
use borrow.Author.Rules.{rules}
use Rattle.leading_lines.proofs.next_blanks.Goals as goal

pub returns-then-blanks-eq0 : goal.returns-then-blanks-eq0
unfolding next_blanks
returns-then-blanks-eq0 c = simp (eq-eqb _ _ c.if-blanks-eq0.true)

pub returns-then-kind-number : goal.returns-then-kind-number
unfolding next_blanks
returns-then-kind-number c = simp (ne_eqb _ _ c.if-blanks-eq0.false, ← c.most_closing.ensures, lt-ltb _ _ c.if-blanks-most_closing.true, ← c.number.ensures, eq-eqb _ _ c.if-kind-number.true)

pub returns-else-kind-number : goal.returns-else-kind-number
unfolding next_blanks
returns-else-kind-number c = simp (ne_eqb _ _ c.if-blanks-eq0.false, ← c.most_closing.ensures, lt-ltb _ _ c.if-blanks-most_closing.true, ← c.number.ensures, ne_eqb _ _ c.if-kind-number.false)

pub returns-else-blanks-most_closing : goal.returns-else-blanks-most_closing
unfolding next_blanks
returns-else-blanks-most_closing c = simp (ne_eqb _ _ c.if-blanks-eq0.false, ← c.most_closing.ensures, le-ltb _ _ c.if-blanks-most_closing.false)
