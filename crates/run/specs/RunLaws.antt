-- A run, step by step: what is left of it after each nibble.
use Rattle.std.specs.Prelude.{◌≡◌, refl, Bool, true, false, List, [], ◌∷◌, ℕ, suc, ◌+◌, ◌≤◌, ◌<◌, leb, length, take, drop, get_or}
use Rattle.std.proofs.Common.{sym, ap, ◌∙◌, zero-add, add-zero, add-one, arith, le-leb, drop_of_length-le, drop-cons}
use Rattle.std.proofs.lemmas.Bool.{lt-leb}
use Rattle.refusal.specs.Refusal.{not_a_nibble}
use Rattle.stream.specs.Answers.{nothing, refused, answer_for, is_answer}
use Rattle.reader.specs.declared.Reader.{Reader}
use Rattle.reader.specs.Reader.{Took, taking}
use Rattle.run.specs.Run.{ran, onward, stops, stop_place}
use Rattle.run.specs.Stopping.{taking_all, stopping}

-- By the place of its stop.

onward_stops : (w : List ℕ) (r : Reader) (i : ℕ)
    → onward r w i ≡ stopping (taking_all r (take (stop_place r w) w)) (drop (stop_place r w) w) (i + stop_place r w)
unfolding stops
onward_stops [] r i = ap (ran r nothing) (sym (add-zero i))
onward_stops (n ∷ w) r i = go (leb n 15) (is_answer (answer_for (taking r n).outcome)) refl refl (onward_stops w (taking r n).reader (i + 1))
  where
    t : Took
    t = taking r n

    p : ℕ
    p = stop_place t.reader w

    go : (a b : Bool) → leb n 15 ≡ a → is_answer (answer_for t.outcome) ≡ b
        → onward t.reader w (i + 1) ≡ stopping (taking_all t.reader (take p w)) (drop p w) (i + 1 + p)
        → onward r (n ∷ w) i
        ≡ stopping (taking_all r (take (stop_place r (n ∷ w)) (n ∷ w))) (drop (stop_place r (n ∷ w)) (n ∷ w)) (i + stop_place r (n ∷ w))
    go false b e f h = simp (e, add-zero i)
    go true true e f h = simp (e, f, add-zero i)
    go true false e f h =
        simp (e, f)
        (h
        ∙ ap (stopping (taking_all t.reader (take p w)) (drop p w)) (let z : i + 1 + p ≡ i + suc p = omega arith in z))

-- the nibbles before the stop are taken one by one, and then the input there; so the count is the place of the stop, and one more where a
-- nibble there is taken
pub up_to_stop : (r : Reader) (w : List ℕ) → onward r w 0 ≡ stopping (taking_all r (take (stop_place r w) w)) (drop (stop_place r w) w) (stop_place r w)
up_to_stop r w = onward_stops w r 0 ∙ ap (stopping (taking_all r (take (stop_place r w) w)) (drop (stop_place r w) w)) (zero-add (stop_place r w))

-- One nibble at the place i.

module _ (r : Reader) (s : List ℕ) (i : ℕ) where
  pub onward_end : length s ≤ i → onward r (drop i s) i ≡ ran r nothing i
  onward_end h = ap (λ l. onward r l i) (drop_of_length-le s h)

  there : i < length s → onward r (drop i s) i ≡ onward r (get_or s i 0 ∷ drop (i + 1) s) i
  there h = ap (λ l. onward r l i) (drop-cons s i 0 h) ∙ ap (λ k. onward r (get_or s i 0 ∷ drop k s) i) (sym (add-one i))

  pub onward_above : i < length s → 15 < get_or s i 0 → onward r (drop i s) i ≡ ran r (refused not_a_nibble) i
  onward_above h g = there h ∙ simp (lt-leb _ _ g)

  pub onward_answered : i < length s → get_or s i 0 < 16 → is_answer (answer_for (taking r (get_or s i 0)).outcome) ≡ true
      → onward r (drop i s) i ≡ ran (taking r (get_or s i 0)).reader (taking r (get_or s i 0)).outcome (i + 1)
  onward_answered h g f = there h ∙ simp (le-leb (get_or s i 0) 15 (omega arith), f)

  pub onward_on : i < length s → get_or s i 0 < 16 → is_answer (answer_for (taking r (get_or s i 0)).outcome) ≡ false
      → onward r (drop i s) i ≡ onward (taking r (get_or s i 0)).reader (drop (i + 1) s) (i + 1)
  onward_on h g f = there h ∙ simp (le-leb (get_or s i 0) 15 (omega arith), f)
