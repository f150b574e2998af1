-- At each turn the texts so far were alike, and what is left of them decides.
use mathlib.Core.Path.{◌≡◌}
use Prim.Native.Nat.{◌≤◌}
use lib.ListN.{drop}
use Rattle.saved_text.specs.SettingsText.{is_like}
use Rattle.saved_text.proofs.is_like.Given as goal

abbrev pub invariant-loop-c : goal.invariant-loop-c
invariant-loop-c l = (l.at ≤ l.c-index) × (is_like l.text l.whole ≡ is_like (drop l.c-index l.text) (drop l.at l.whole))
