-- A text read, a character after another; what tells an ordered list.
use Rattle.std.specs.Prelude.{◌≡◌, refl, Bool, true, false, ◌&&◌, cond, List, [], ◌∷◌, ℕ, suc, ◌+◌, ◌<◌, ◌≤◌, eqb, length, drop, get_or}
use Rattle.std.proofs.Common.{ap, ◌∙◌, add-one, arith, drop_of_length-le, drop-cons, drop-drop}
use Rattle.refusal.specs.Refusal.{version_not_held, not_saved_settings}
use Rattle.text.specs.Text.{newline}
use Rattle.saved_setting.specs.declared.SavedSetting.{SavedSetting}
use Rattle.saved_setting.specs.SavedSettings.{Reply, yields, refused, is_saved_list, found_in}
use Rattle.saved_text.specs.declared.LinesGathered.{LinesGathered}
use Rattle.saved_text.specs.SettingsText.{gathered_after, gathered_over, starts_by, cover_of, may_stand, at_most_newline, is_like}

-- Read.

module _ (text : List ℕ) (i : ℕ) (h : i < length text) where
  pub gathered_step : (g : LinesGathered) → gathered_over g (drop i text) ≡ gathered_over (gathered_after g (get_or text i 0)) (drop (i + 1) text)
  gathered_step g = rw (add-one i, drop-cons text i 0)

  pub starts_at : (c : ℕ) → starts_by c (drop i text) ≡ eqb (get_or text i 0) c
  starts_at c = rw (drop-cons text i 0)

  pub like_step : (other : List ℕ) (j : ℕ)
      → is_like (drop i text) (drop j other)
      ≡ (may_stand (get_or text i 0) (drop j other) && is_like (drop (i + 1) text) (drop (j + cover_of (get_or text i 0)) other))
  like_step other j = rw (add-one i, ← drop-drop (cover_of (get_or text i 0)) j other, drop-cons text i 0)

-- at the text's end what is left of the other decides
pub like_end : (text rest : List ℕ) (i : ℕ) → length text ≤ i → is_like (drop i text) rest ≡ at_most_newline rest
like_end text rest i h = ap (λ (t : List ℕ). is_like t rest) (drop_of_length-le text h)

-- what is left from a place on: nothing, one character, or more
module _ (other : List ℕ) (j : ℕ) where
  pub none_left : length other ≤ j → at_most_newline (drop j other) ≡ true
  none_left h = ap at_most_newline (drop_of_length-le other h)

  pub one_left : length other ≡ j + 1 → at_most_newline (drop j other) ≡ eqb (get_or other j 0) newline
  one_left h =
      let here : drop j other ≡ get_or other j 0 ∷ drop (suc j) other = drop-cons other j 0 (omega (arith, h)) in
      let behind : drop (suc j) other ≡ [] = drop_of_length-le other {i = suc j} (omega (arith, h)) in
      ap at_most_newline (here ∙ ap (λ (t : List ℕ). get_or other j 0 ∷ t) behind)

  pub more_left : j + 1 < length other → at_most_newline (drop j other) ≡ false
  more_left h =
      let here : drop j other ≡ get_or other j 0 ∷ drop (suc j) other = drop-cons other j 0 (omega (arith, h)) in
      let behind : drop (suc j) other ≡ get_or other (suc j) 0 ∷ drop (suc (suc j)) other = drop-cons other (suc j) 0 (omega (arith, h)) in
      ap at_most_newline (here ∙ ap (λ (t : List ℕ). get_or other j 0 ∷ t) behind)

-- Ordered.

-- what an answer for version 0 says of the list
abbrev pub is_not_held : Reply SavedSetting → Bool
is_not_held (yields s) = true
is_not_held (refused n) = eqb n version_not_held

pub zero_not_held : (list : List SavedSetting) → is_not_held (found_in list 0) ≡ is_saved_list list
unfolding found_in
zero_not_held list = either (is_saved_list list)
  where
    either : (t : Bool) → is_not_held (cond t (refused version_not_held) (refused not_saved_settings)) ≡ t
    either true = refl
    either false = refl
