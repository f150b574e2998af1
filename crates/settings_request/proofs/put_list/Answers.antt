-- The oldest place is used where any is.
use borrow.Author.Tests.{eq-eqb, ne_eqb}
use Rattle.settings_request.specs.SettingsRequest.{listed_text}
use Rattle.settings_request.proofs.put_list.Goals as goal

pub returns-then-version-eq0 : goal.returns-then-version-eq0
unfolding listed_text
returns-then-version-eq0 c = simp (eq-eqb _ _ c.if-version-eq0.true) c.put.ensures

pub returns-else-version-eq0 : goal.returns-else-version-eq0
unfolding listed_text
returns-else-version-eq0 c = simp (ne_eqb _ _ c.if-version-eq0.false) c.put_settings.ensures
