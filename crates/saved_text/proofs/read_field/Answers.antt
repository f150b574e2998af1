-- The tests in the definition's order.
use borrow.Author.Tests.{le-leb, lt-leb, eq-eqb, ne_eqb}
use Rattle.saved_text.specs.SettingsText.{fields_after}
use Rattle.saved_text.proofs.read_field.Goals as goal

pub returns-then-c-le57 : goal.returns-then-c-le57
unfolding fields_after
returns-then-c-le57 c = simp (le-leb _ _ c.if-c-ge48.true, le-leb _ _ c.if-c-le57.true, c.with_digit.ensures)

pub returns-then-c-eq58 : goal.returns-then-c-eq58
unfolding fields_after
returns-then-c-eq58 c = simp (le-leb _ _ c.if-c-ge48.true, lt-leb _ _ c.if-c-le57.false, eq-eqb _ _ c.if-c-eq58.true, c.with_field.ensures)

pub returns-then-c-ge48 : goal.returns-then-c-ge48
unfolding fields_after
returns-then-c-ge48 c = simp (le-leb _ _ c.if-c-ge48.true, lt-leb _ _ c.if-c-le57.false, ne_eqb _ _ c.if-c-eq58.false)

pub returns-then-c-eq44 : goal.returns-then-c-eq44
unfolding fields_after
returns-then-c-eq44 c = simp (lt-leb _ _ c.if-c-ge48.false, eq-eqb _ _ c.if-c-eq44.true, c.with_field-then-c-eq44.ensures)

pub returns : goal.returns
unfolding fields_after
returns c = simp (lt-leb _ _ c.if-c-ge48.false, ne_eqb _ _ c.if-c-eq44.false)
