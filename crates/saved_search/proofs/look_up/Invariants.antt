-- What is looked up is found from the place reached on.
use Rattle.std.proofs.Common.{◌≡◌, drop}
use Rattle.saved_setting.specs.SavedSettings.{look_up}
use Rattle.saved_search.proofs.look_up.Given as goal

abbrev pub invariant-loop-setting : goal.invariant-loop-setting
invariant-loop-setting l = look_up l.version l.setting-items ≡ look_up l.version (drop l.setting-index l.setting-items)
