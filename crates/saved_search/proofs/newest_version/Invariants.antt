-- The version found so far is the newest one, unless a later place is used.
use Rattle.std.proofs.Common.{◌≡◌, drop}
use Rattle.saved_setting.specs.SavedSettings.{later_version, newest_version}
use Rattle.saved_search.proofs.newest_version.Given as goal

abbrev pub invariant-loop-place : goal.invariant-loop-place
invariant-loop-place l = newest_version l.place-items ≡ later_version l.newest (newest_version (drop l.place-index l.place-items))
