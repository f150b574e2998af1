-- The places before the one reached are read.
use Rattle.std.proofs.Common.{◌≡◌, length, take}
use Rattle.fluturenc_settings.specs.SavedBytes.{first_settings}
use Rattle.fluturenc_settings.proofs.places_in.Given as goal

abbrev pub invariant-loop-i : goal.invariant-loop-i
invariant-loop-i l = (length l.places ≡ 8) × (take l.i l.places ≡ first_settings l.i l.list)
