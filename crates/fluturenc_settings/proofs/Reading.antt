-- What is read: a setting from a byte on, and the settings of a list one behind another.
use mathlib.Core.Path.{◌≡◌, refl, sym, ap, ◌∙◌}
use mathlib.Core.List.{List, [], ◌∷◌, ◌++◌}
use Prim.Native.Nat.{ℕ, zero, suc, ◌+◌, ◌*◌, ◌<◌}
use native.Mathlib.Omega.{arith}
use lib.ListN.{length, get_or, set, take, drop}
use Rattle.std.proofs.Common.{add-one}
use Rattle.std.proofs.lemmas.List.{take_more_set}
use lib.Seq.{get_or-drop, drop-drop}
use Rattle.line_records.specs.Lines.{from_two}
use Rattle.saved_setting.specs.declared.SavedSetting.{SavedSetting}
use Rattle.fluturenc_settings.specs.SavedBytes.{front_setting, first_settings}

module _ (b : List ℕ) (at : ℕ) where
  pub setting_read : (v f c : ℕ) → v ≡ from_two (get_or b at 0) (get_or b (at + 1) 0) → f ≡ from_two (get_or b (at + 2) 0) (get_or b (at + 2 + 1) 0)
      → c ≡ from_two (get_or b (at + 4) 0) (get_or b (at + 4 + 1) 0)
      → record { version = v; fine = f; coarse = c; gain = get_or b (at + 6) 0; divisor = get_or b (at + 7) 0 } ≡ front_setting (drop at b)
  unfolding front_setting
  setting_read v f c p q r =
      let here : at + 0 ≡ at = omega arith in
      let first : get_or (drop at b) 0 0 ≡ get_or b at 0 = get_or-drop at b 0 0 ∙ ap (λ (k : ℕ). get_or b k 0) here in
      let three : at + 2 + 1 ≡ at + 3 = omega arith in
      let five : at + 4 + 1 ≡ at + 5 = omega arith in
      let fine : f ≡ from_two (get_or b (at + 2) 0) (get_or b (at + 3) 0) = q ∙ ap (λ (k : ℕ). from_two (get_or b (at + 2) 0) (get_or b k 0)) three in
      let coarse : c ≡ from_two (get_or b (at + 4) 0) (get_or b (at + 5) 0) = r ∙ ap (λ (k : ℕ). from_two (get_or b (at + 4) 0) (get_or b k 0)) five in
      simp (p, fine, coarse, first, get_or-drop at b 1 0, get_or-drop at b 2 0, get_or-drop at b 3 0, get_or-drop at b 4 0, get_or-drop at b 5 0, get_or-drop at b 6 0, get_or-drop at b 7 0)

-- the first places of a list, and the one behind them
place_after : (b : List ℕ) (i : ℕ) → first_settings i b ++ (front_setting (drop (8 * i) b) ∷ []) ≡ first_settings (suc i) b
place_after b zero = refl
place_after b (suc i) =
    let e : 8 + 8 * i ≡ 8 * suc i = omega arith in
    let there : drop (8 * i) (drop 8 b) ≡ drop (8 * suc i) b = drop-drop (8 * i) 8 b ∙ ap (λ (k : ℕ). drop k b) e in
    ap (λ (l : List ℕ). front_setting b ∷ (first_settings i (drop 8 b) ++ (front_setting l ∷ []))) (sym there)
    ∙ ap (λ (l : List SavedSetting). front_setting b ∷ l) (place_after (drop 8 b) i)

pub place_read : (b : List ℕ) (i : ℕ) (places : List SavedSetting) (s : SavedSetting) → i < length places → take i places ≡ first_settings i b
    → s ≡ front_setting (drop (8 * i) b) → take (i + 1) (set places i s) ≡ first_settings (i + 1) b
place_read b i places s h e r =
    take_more_set places i s h
    ∙ ap (λ (l : List SavedSetting). l ++ (s ∷ [])) e
    ∙ ap (λ (t : SavedSetting). first_settings i b ++ (t ∷ [])) r
    ∙ place_after b i
    ∙ ap (λ (k : ℕ). first_settings k b) (sym (add-one i))
