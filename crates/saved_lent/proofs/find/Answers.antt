-- A list that is not of eight is refused.
use Rattle.saved_setting.specs.SavedSettingsLaws.{found_refused}
use Rattle.saved_lent.proofs.find.Goals as goal

pub returns-then-list-ne-PLACES : goal.returns-then-list-ne-PLACES
returns-then-list-ne-PLACES c = found_refused _ c.if-list-ne-PLACES.true _
