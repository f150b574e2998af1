-- An unused place has no line; any other has its setting's.
use borrow.Author.Tests.{eq-eqb, ne_eqb}
use Rattle.text.specs.PagesLaws.{nothing}
use Rattle.saved_lines.specs.SavedLines.{place_line}
use Rattle.saved_lines.proofs.put_place.Goals as goal

pub returns-then-version-ne0 : goal.returns-then-version-ne0
unfolding place_line
returns-then-version-ne0 c = simp (ne_eqb _ _ c.if-version-ne0.true) c.put_setting.ensures

pub returns-else-version-ne0 : goal.returns-else-version-ne0
unfolding place_line
returns-else-version-ne0 c = simp (eq-eqb _ _ c.if-version-ne0.false) (nothing _)
