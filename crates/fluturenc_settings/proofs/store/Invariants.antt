-- The bytes of the places before the one reached are stored.
use Rattle.std.proofs.Common.{◌≡◌, take}
use Rattle.std.proofs.lemmas.List.Edits.{sets}
use Rattle.fluturenc_settings.specs.SavedBytes.{list_bytes}
use Rattle.fluturenc_settings.proofs.store.Given as goal

abbrev pub invariant-loop-i : goal.invariant-loop-i
invariant-loop-i l = l.list ≡ sets l.initial.list 0 (list_bytes (take l.i l.places))
