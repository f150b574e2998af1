-- A list that is not of eight is refused.
use Rattle.saved_setting.specs.SavedSettingsLaws.{wanted_refused}
use Rattle.saved_lent.proofs.save.Goals as goal

pub returns-then-list-ne-PLACES : goal.returns-then-list-ne-PLACES
returns-then-list-ne-PLACES c = wanted_refused _ c.if-list-ne-PLACES.true _
