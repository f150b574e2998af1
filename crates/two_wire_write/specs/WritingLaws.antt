-- Laws of a list of pairs: its messages' length, and one pair of it after another.
use Rattle.std.specs.Prelude.{◌≡◌, refl, false, not, ◌||◌, List, [], ◌∷◌, ◌++◌, ℕ, suc, ◌+◌, ◌*◌, ◌/◌, ◌%◌, ◌<◌, ◌≤◌, eqb, ltb, length, drop, get_or, Ok}
use Rattle.std.proofs.Common.{sym, ap, ◌∙◌, true≢false, add-one, arith, length-drop, drop-cons}
use Rattle.std.proofs.Math.Numerals.{unary_clauses}
use Rattle.std.proofs.lemmas.List.Edits.{sets}
use Rattle.std.proofs.lemmas.Bool.{not-true}
use Rattle.refusal.specs.Refusal.{short_message, past_last_register}
use Rattle.lent_buffer.specs.Filled.{used, Gives, require}
use Rattle.lent_buffer.specs.FilledLaws.{fills, fitted_used, passed, used_fitted}
use Rattle.lent_buffer.specs.StoringLaws.{sets_front}
use Rattle.message_data.specs.Registers.{last_index}
use Rattle.two_wire.specs.Messages.{message}
use Rattle.two_wire_write.specs.Writing.{ends_within_pair, some_index_past, messages, joined, write_of, in_threes}

pub ends_odd : (pairs : List ℕ) → ends_within_pair pairs ≡ eqb (length pairs % 2) 1
ends_odd [] = refl
ends_odd (i ∷ []) = refl
ends_odd (i ∷ v ∷ pairs) =
    let e : length pairs % 2 ≡ suc (suc (length pairs)) % 2 = omega arith in
    ends_odd pairs ∙ ap (λ (k : ℕ). eqb k 1) e

-- three bytes a pair
pub messages_length : (pairs : List ℕ) → length (joined (messages pairs)) ≡ 3 * (length pairs / 2)
messages_length [] = refl
messages_length (i ∷ []) = refl
messages_length (i ∷ v ∷ pairs) = omega (arith, messages_length pairs)

-- What is written.

-- what is neither 24, 28 nor 12 is written
pub writes : (pairs : List ℕ) (room : ℕ) → ends_within_pair pairs ≡ false → some_index_past pairs ≡ false → length (joined (messages pairs)) ≤ room
    → write_of pairs room ≡ used (length (joined (messages pairs))) (joined (messages pairs))
unfolding write_of require
writes pairs room e p h = simp (e, p) (fitted_used (joined (messages pairs)) room h)

pub written : (pairs buffer : List ℕ) → ends_within_pair pairs ≡ false → some_index_past pairs ≡ false → length (joined (messages pairs)) ≤ length buffer
    → Gives (write_of pairs (length buffer)) (Ok (length (joined (messages pairs)))) buffer (sets buffer 0 (joined (messages pairs)))
written pairs buffer e p h =
    fills _ _ (joined (messages pairs)) buffer _ (writes pairs (length buffer) e p h) refl (sets_front (joined (messages pairs)) buffer h)

-- nothing else is
pub wrote_is : (pairs w : List ℕ) (room n : ℕ) → write_of pairs room ≡ used n w → (some_index_past pairs ≡ false) × (w ≡ joined (messages pairs))
unfolding write_of
wrote_is pairs w room n h =
    let p = passed (not (some_index_past pairs)) past_last_register _ (passed (not (ends_within_pair pairs)) short_message _ h).1 in
    (not-true _ p.0, (used_fitted (joined (messages pairs)) room p.1).0)

pub in_threes_lem : (pairs : List ℕ) → in_threes (joined (messages pairs)) ≡ messages pairs
in_threes_lem [] = refl
in_threes_lem (i ∷ []) = refl
in_threes_lem (i ∷ v ∷ pairs) = ap (λ (ms : List (List ℕ)). message i v ∷ ms) (in_threes_lem pairs)

-- One pair after another.

whole : (pairs : List ℕ) → 0 < length pairs → ends_within_pair pairs ≡ false → 1 < length pairs
whole [] h e = omega arith
whole (i ∷ []) h e = absurd (true≢false e)
whole (i ∷ v ∷ pairs) h e = omega arith

module _ (pairs : List ℕ) (i : ℕ) (h : i < length pairs) (e : ends_within_pair (drop i pairs) ≡ false) where
  pub pair_whole : i + 1 < length pairs
  pair_whole = omega (arith, length-drop i pairs, whole (drop i pairs) (omega (arith, length-drop i pairs)) e)

  pub pair_at : drop i pairs ≡ get_or pairs i 0 ∷ get_or pairs (i + 1) 0 ∷ drop (i + 2) pairs
  pair_at =
      let g : i + 1 < length pairs = pair_whole in
      let two : i + 2 ≡ suc (i + 1) = omega arith in
      drop-cons pairs i 0 h
      ∙ ap (λ (k : ℕ). get_or pairs i 0 ∷ drop k pairs) (sym (add-one i))
      ∙ ap (λ (l : List ℕ). get_or pairs i 0 ∷ l) (drop-cons pairs (i + 1) 0 g ∙ ap (λ (k : ℕ). get_or pairs (i + 1) 0 ∷ drop k pairs) (sym two))

  pub ends_step : ends_within_pair (drop (i + 2) pairs) ≡ false
  ends_step = ap ends_within_pair (sym pair_at) ∙ e

  pub past_step : some_index_past (drop i pairs) ≡ (ltb last_index (get_or pairs i 0) || some_index_past (drop (i + 2) pairs))
  past_step = ap some_index_past pair_at

  pub messages_step : joined (messages (drop i pairs)) ≡ message (get_or pairs i 0) (get_or pairs (i + 1) 0) ++ joined (messages (drop (i + 2) pairs))
  messages_step = ap (λ (l : List ℕ). joined (messages l)) pair_at

  pub step_length : length (joined (messages (drop i pairs))) ≡ 3 + length (joined (messages (drop (i + 2) pairs)))
  step_length = ap length messages_step ∙ omega arith

  pub step_sets : (buffer : List ℕ) (at : ℕ)
      → sets (sets buffer at (message (get_or pairs i 0) (get_or pairs (i + 1) 0))) (at + 3) (joined (messages (drop (i + 2) pairs)))
      ≡ sets buffer at (joined (messages (drop i pairs)))
  step_sets buffer at = rw messages_step (simp unary_clauses)
