-- Two texts compared, and a number read, a character at a time.
use Rattle.std.specs.Prelude.{◌≡◌, refl, Bool, true, false, ◌&&◌, cond, List, [], ◌∷◌, ℕ, suc, ◌+◌, ◌-◌, ◌*◌, ◌<◌, eqb, ltb, length, drop, get_or}
use Rattle.std.proofs.Common.{◌∙◌, ap, ap₂, sym, add-one, drop-cons}
use Rattle.text.specs.Text.{digit}
use Rattle.command_word.specs.Word.{same, tenth_of_marks, mark_onto}

-- from a place on, by the characters there
pub same_step : (s t : List ℕ) (i : ℕ) → i < length s → i < length t
    → same (drop i s) (drop i t) ≡ (eqb (get_or s i 0) (get_or t i 0) && same (drop (i + 1) s) (drop (i + 1) t))
same_step s t i h g =
    ap₂ same (drop-cons s i 0 h) (drop-cons t i 0 g)
    ∙ ap (λ (k : ℕ). eqb (get_or s i 0) (get_or t i 0) && same (drop k s) (drop k t)) (sym (add-one i))

-- texts of different lengths differ
pub same_lengths : (s t : List ℕ) → (length s ≡ length t → ⊥) → same s t ≡ false
same_lengths [] [] h = absurd (h refl)
same_lengths [] (d ∷ t) h = refl
same_lengths (c ∷ s) [] h = refl
same_lengths (c ∷ s) (d ∷ t) h = and_none (eqb c d) (same_lengths s t (λ e. h (ap suc e)))
  where
    and_none : (b : Bool) {x : Bool} → x ≡ false → (b && x) ≡ false
    and_none true e = e
    and_none false e = refl

-- a number read on from a place, by the character there
pub mark_step : (n : ℕ) (t : List ℕ) (i : ℕ) → i < length t
    → mark_onto n (drop i t)
    ≡ cond (ltb (get_or t i 0) (digit 0)) 0
    (cond (ltb (digit 9) (get_or t i 0)) 0
    (cond (ltb tenth_of_marks n) 0 (mark_onto (10 * n + (get_or t i 0 - digit 0)) (drop (i + 1) t))))
mark_step n t i h = rw (add-one i, drop-cons t i 0)
