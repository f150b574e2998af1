-- The places are in order where those from the place before the one reached on are.
use Rattle.std.proofs.Common.{◌≡◌, ◌-◌, drop}
use Rattle.saved_setting.specs.SavedSettings.{versions_in_order}
use Rattle.saved_search.proofs.in_order.Given as goal

abbrev pub invariant-loop-i : goal.invariant-loop-i
invariant-loop-i l = versions_in_order l.places ≡ versions_in_order (drop (l.i - 1) l.places)
