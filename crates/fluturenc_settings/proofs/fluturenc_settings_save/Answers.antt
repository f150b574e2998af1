-- Bytes of another length than a list's are answered 37.
use Rattle.saved_setting.specs.SavedSettingsLaws.{wanted_refused}
use Rattle.fluturenc_settings.proofs.Telling.{not_eight, not_told}
use Rattle.fluturenc_settings.proofs.fluturenc_settings_save.Goals as goal

pub returns : goal.returns
returns c = not_told _ _ _ (wanted_refused _ (not_eight c.args.list.now c.if-list-eq-LIST.false) _)
