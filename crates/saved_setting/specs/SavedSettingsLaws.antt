-- A list of another length than eight is answered 37, and stays as it is.
use Rattle.std.specs.Prelude.{◌≡◌, List, ℕ, length, Err}
use Rattle.std.proofs.Common.{ne_eqb}
use Rattle.refusal.specs.Refusal.{not_saved_settings}
use Rattle.saved_setting.specs.declared.SavedSetting.{SavedSetting}
use Rattle.saved_setting.specs.declared.Wanted.{Wanted}
use Rattle.saved_setting.specs.SavedSettings.{held_reply, setting_places, saved_wanted, found_in, saved_again, Leaves}

module _ (list : List SavedSetting) (other : length list ≡ setting_places → ⊥) where
  pub wanted_refused : (w : Wanted) → Leaves (saved_wanted list w) (Err (record { 0 = not_saved_settings })) list
  unfolding saved_wanted
  wanted_refused w = record { answers = simp (ne_eqb (length list) setting_places other); leaves = simp (ne_eqb (length list) setting_places other) }

  pub found_refused : (v : ℕ) → held_reply (Err (record { 0 = not_saved_settings })) ≡ found_in list v
  unfolding found_in
  found_refused v = simp (ne_eqb (length list) setting_places other)

  pub again_refused : (v : ℕ) → Leaves (saved_again list v) (Err (record { 0 = not_saved_settings })) list
  unfolding saved_again found_in
  again_refused v = record { answers = simp (ne_eqb (length list) setting_places other); leaves = simp (ne_eqb (length list) setting_places other) }
