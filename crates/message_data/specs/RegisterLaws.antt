-- Laws of a message's data: where it ends, and one byte of it after another.
use Rattle.std.specs.Prelude.{◌≡◌, refl, Bool, true, false, ◌||◌, List, [], ◌∷◌, ℕ, suc, ◌+◌, ◌-◌, ◌<◌, ◌≤◌, ltb, length, drop, get_or}
use Rattle.std.proofs.Common.{sym, ◌∙◌, ⊎_elim, eq-or-lt_of_le, add-one, arith, lt-ltb, le-ltb, ltb-false, drop-cons}
use Rattle.std.proofs.Math.Dec.{leb-zero, leb-suc-suc}
use Rattle.bits.specs.Tests.{or_left, or_right}
use Rattle.message_data.specs.Registers.{register_count, last_index, next, runs_past, reached, put, stored, differs, some_differs}

-- Where data ends.

pub runs_past_counts : (i : ℕ) (bytes : List ℕ) → i ≤ register_count → runs_past true i bytes ≡ ltb (register_count - i) (length bytes)
unfolding next
runs_past_counts i [] h = sym (le-ltb (register_count - i) 0 (omega arith))
runs_past_counts i (b ∷ bytes) h =
    ⊎_elim (λ (e : i ≡ register_count). rw e (sym (leb-suc-suc 0 (length bytes) ∙ leb-zero (length bytes))))
    (λ (l : i < register_count).
    let e : register_count - i ≡ suc (register_count - (i + 1)) = omega arith in
    rw (le-ltb last_index i (omega arith), e) (runs_past_counts (i + 1) bytes (omega arith) ∙ sym (leb-suc-suc (suc (register_count - (i + 1))) (length bytes))))
    (eq-or-lt_of_le h)

-- from an index past 127 on, the first byte does
pub runs_past_beyond : (increment : Bool) (i : ℕ) (bytes : List ℕ) → last_index < i → runs_past increment i bytes ≡ ltb 0 (length bytes)
runs_past_beyond increment i [] h = sym (le-ltb 0 0 (omega arith))
runs_past_beyond increment i (b ∷ bytes) h = rw (lt-ltb last_index i h) (sym (lt-ltb 0 (length (b ∷ bytes)) (omega arith)))

pub runs_past_still : (i : ℕ) (bytes : List ℕ) → i ≤ last_index → runs_past false i bytes ≡ false
unfolding next
runs_past_still i [] h = refl
runs_past_still i (b ∷ bytes) h = rw (le-ltb last_index i h) (runs_past_still i bytes h)

pub reached_counts : (i : ℕ) (bytes : List ℕ) → reached true i bytes ≡ i + length bytes
unfolding next
reached_counts i [] = omega arith
reached_counts i (b ∷ bytes) = reached_counts (i + 1) bytes ∙ omega arith

pub reached_still : (i : ℕ) (bytes : List ℕ) → reached false i bytes ≡ i
unfolding next
reached_still i [] = refl
reached_still i (b ∷ bytes) = reached_still i bytes

next_more : (increment : Bool) (i : ℕ) → i ≤ next increment i
unfolding next
next_more true i = omega arith
next_more false i = omega arith

pub reached_more : (increment : Bool) (i : ℕ) (bytes : List ℕ) → i ≤ reached increment i bytes
reached_more increment i [] = omega arith
reached_more increment i (b ∷ bytes) = omega (arith, next_more increment i, reached_more increment (next increment i) bytes)

-- nothing past the last index is compared
pub past_alike : (increment : Bool) (i : ℕ) (bytes registers : List ℕ) → last_index < i → some_differs increment i bytes registers ≡ false
unfolding differs
past_alike increment i [] registers h = refl
past_alike increment i (b ∷ bytes) registers h =
    simp (le-ltb i 5 (omega arith), lt-ltb last_index i h) (past_alike increment (next increment i) bytes registers (omega (arith, next_more increment i)))

-- One byte after another.

module _ (increment : Bool) (bytes : List ℕ) (i : ℕ) (h : i < length bytes) where
  pub runs_past_step : (at : ℕ) → runs_past increment at (drop i bytes) ≡ (ltb last_index at || runs_past increment (next increment at) (drop (i + 1) bytes))
  runs_past_step at = rw (add-one i, drop-cons bytes i 0)

  -- data that does not pass the last index: neither does its first byte, nor the rest
  pub runs_past_here : (at : ℕ) → runs_past increment at (drop i bytes) ≡ false → at ≤ last_index
  runs_past_here at e = ltb-false last_index at (or_left (ltb last_index at) (runs_past increment (next increment at) (drop (i + 1) bytes)) (sym (runs_past_step at) ∙ e))

  pub runs_past_after : (at : ℕ) → runs_past increment at (drop i bytes) ≡ false → runs_past increment (next increment at) (drop (i + 1) bytes) ≡ false
  runs_past_after at e = or_right (ltb last_index at) _ (sym (runs_past_step at) ∙ e)

  pub stored_step : (at : ℕ) (registers : List ℕ)
      → stored increment at (drop i bytes) registers ≡ stored increment (next increment at) (drop (i + 1) bytes) (put registers at (get_or bytes i 0))
  stored_step at registers = rw (add-one i, drop-cons bytes i 0)

  pub differs_step : (at : ℕ) (registers : List ℕ)
      → some_differs increment at (drop i bytes) registers
      ≡ (differs registers at (get_or bytes i 0) || some_differs increment (next increment at) (drop (i + 1) bytes) registers)
  differs_step at registers = rw (add-one i, drop-cons bytes i 0)
