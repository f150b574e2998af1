-- Bytes of another length than a list's are answered 37.
use Rattle.saved_setting.specs.SavedSettingsLaws.{found_refused}
use Rattle.fluturenc_settings.proofs.Telling.{not_eight}
use Rattle.fluturenc_settings.proofs.held_in.Goals as goal

pub returns : goal.returns
returns c = found_refused _ (not_eight c.args.list.now c.if-list-eq-LIST.false) _
