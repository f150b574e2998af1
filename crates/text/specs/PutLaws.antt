-- Texts put one after another are their concatenation, put at once.
use Rattle.std.specs.Prelude.{◌≡◌, refl, Bool, true, false, List, [], ◌∷◌, ◌++◌, ℕ, suc, ◌+◌, ◌≤◌, ◌<◌, leb, length, take, drop, set, get_or}
use Rattle.std.proofs.Common.{sym, ap, subst, ◌∙◌, append_assoc, add-one, arith, leb-true, leb-false, length-append, length-drop, take-append-drop, drop-drop, take-suc, take_all}
use Rattle.std.proofs.lemmas.List.Edits.{sets, sets-eq}
use Rattle.std.proofs.Math.Seq.{length-sets, set_out, take-append_seam}
use Rattle.lent_buffer.specs.StoringLaws.{sets_append, sets_front}
use Rattle.text.specs.Put.{Puts, Put, on_front, AtFront}

-- As far as there is room.

sets_out : (v d : List ℕ) (at : ℕ) → length d ≤ at → sets d at v ≡ d
sets_out [] d at h = refl
sets_out (b ∷ v) d at h = ap (λ (l : List ℕ). sets l (suc at) v) (set_out d at b h) ∙ sets_out v d (suc at) (omega arith)

pub puts_length : {d d₁ v : List ℕ} {at r : ℕ} → Puts d at v r d₁ → length d₁ ≡ length d
puts_length {d} {d₁} {v} {at} p = ap length p.stored ∙ length-sets d at v

-- from the place after a text, or from the end where the text was cut
puts_on : {d d₁ v : List ℕ} {at r : ℕ} (w : List ℕ) → Puts d at v r d₁ → sets d₁ r w ≡ sets d₁ (at + length v) w
puts_on {d} {d₁} {v} {at} {r} w p = either (leb (at + length v) (length d)) refl
  where
    either : (t : Bool) → leb (at + length v) (length d) ≡ t → sets d₁ r w ≡ sets d₁ (at + length v) w
    either true e =
        let q : r ≡ at + length v = omega (arith, p.place, leb-true (at + length v) (length d) e) in
        ap (λ (k : ℕ). sets d₁ k w) q
    either false e =
        let h = leb-false (at + length v) (length d) e in
        sets_out w d₁ r (omega (arith, p.place, h, puts_length p))
        ∙ sym (sets_out w d₁ (at + length v) (omega (arith, h, puts_length p)))

pub then :
    {d d₁ d₂ v w : List ℕ} {at r₁ r₂ : ℕ}
    → Puts d at v r₁ d₁ → Puts d₁ r₁ w r₂ d₂ → Puts d at (v ++ w) r₂ d₂
then {d} {d₁} {d₂} {v} {w} {at} {r₁} {r₂} p q =
    record {
      place = omega (arith, p.place, q.place, puts_length p, length-append v w);
      stored = q.stored ∙ puts_on w p ∙ rw p.stored (sets_append v w d at);
    }

pub puts_none : (d : List ℕ) (at : ℕ) → Puts d at [] at d
puts_none d at = record { place = omega arith; stored = refl }

-- beyond the end
pub puts_full : (d v : List ℕ) (at : ℕ) → length d ≤ at → Puts d at v at d
puts_full d v at h = record { place = omega arith; stored = sym (sets_out v d at h) }

-- one byte, where there is room, and where there is none
pub puts_one : (d : List ℕ) (at b : ℕ) → at < length d → Puts d at (b ∷ []) (at + 1) (set d at b)
puts_one d at b h = record { place = omega arith; stored = refl }

pub puts_out : (d : List ℕ) (at b : ℕ) → length d ≤ at → Puts d at (b ∷ []) at d
puts_out d at b h = record { place = omega arith; stored = sym (set_out d at b h) }

-- one byte more of a text
pub puts_more :
    (s : List ℕ) (i : ℕ) {d d₁ d₂ : List ℕ} {at r₁ r₂ : ℕ}
    → i < length s → Puts d at (take i s) r₁ d₁ → Puts d₁ r₁ (get_or s i 0 ∷ []) r₂ d₂ → Puts d at (take (i + 1) s) r₂ d₂
puts_more s i h p q = rw (add-one i, take-suc s i 0) (then p q)

-- a text to its end
pub puts_whole : (s : List ℕ) (i : ℕ) {d d₁ : List ℕ} {at r : ℕ} → length s ≤ i → Puts d at (take i s) r d₁ → Puts d at s r d₁
puts_whole s i {d} {d₁} {at} {r} h p = subst (λ t. Puts d at t r d₁) (take_all i s h) p

-- a text up to the buffer's end
pub puts_cut : (s : List ℕ) (i : ℕ) {d d₁ : List ℕ} {at r : ℕ} → length d ≤ r → Puts d at (take i s) r d₁ → Puts d at s r d₁
puts_cut s i {d} {d₁} {at} {r} h p =
    let end = puts_full d₁ (drop i s) r (omega (arith, puts_length p)) in
    subst (λ t. Puts d at t r d₁) (take-append-drop i s) (then p end)

-- what follows a place of a text, to its end
pub puts_rest :
    (s : List ℕ) (i n : ℕ) {d d₁ t : List ℕ} {at r : ℕ}
    → length s ≤ i + n → drop i s ≡ t → Puts d at (take n (drop i s)) r d₁ → Puts d at t r d₁
puts_rest s i n {d} {d₁} {t} {at} {r} h e p = subst (λ v. Puts d at v r d₁) (take_all n (drop i s) (omega (arith, length-drop i s)) ∙ e) p

-- Whole.

pub whole : {d d₁ v : List ℕ} {at r : ℕ} → Puts d at v r d₁ → at + length v ≤ length d → Put d at v r d₁
whole p h = record { room = h; place = omega (arith, p.place); stored = p.stored }

pub put_length : {d d₁ v : List ℕ} {at r : ℕ} → Put d at v r d₁ → length d₁ ≡ length d
put_length {d} {d₁} {v} {at} p = ap length p.stored ∙ length-sets d at v

-- the place after a text lies within the buffer
pub put_within : {d d₁ v : List ℕ} {at r : ℕ} → Put d at v r d₁ → r ≤ length d₁
put_within p = omega (arith, p.place, p.room, put_length p)

pub joined :
    {d d₁ d₂ v w : List ℕ} {at r₁ r₂ : ℕ}
    → Put d at v r₁ d₁ → Put d₁ r₁ w r₂ d₂ → Put d at (v ++ w) r₂ d₂
joined {d} {d₁} {d₂} {v} {w} {at} {r₁} {r₂} p q =
    record {
      room = omega (arith, p.place, q.room, put_length p, length-append v w);
      place = omega (arith, p.place, q.place, length-append v w);
      stored = q.stored ∙ rw (p.place, p.stored) (sets_append v w d at);
    }

-- nothing put
pub none : (d : List ℕ) (at r : ℕ) → at ≤ length d → r ≡ at → Put d at [] r d
none d at r h e = record { room = omega arith; place = omega arith; stored = refl }

-- At the front.

pub on_front_lem : {d d₁ t : List ℕ} {r : ℕ} → Put d 0 t r d₁ → AtFront t r d d₁
on_front_lem {d} {d₁} {t} p = record { count = omega (arith, p.place); leaves = p.stored ∙ sets_front t d (omega (arith, p.room)) }

pub puts_front : {d d₁ t : List ℕ} {r : ℕ} → Puts d 0 t r d₁ → length t ≤ length d → AtFront t r d d₁
puts_front p h = on_front_lem (whole p (omega arith))

-- what then stands at the front is the text
pub front_text : {d d₁ t : List ℕ} {r : ℕ} → Put d 0 t r d₁ → take r d₁ ≡ t
front_text {d} {d₁} {t} p = rw ((on_front_lem p).count, (on_front_lem p).leaves) (take-append_seam t (drop (length t) d))

-- a text put at the front of what follows a place
pub in_rest :
    (d t : List ℕ) (at : ℕ) → at + length t ≤ length d → Put d at t (at + length t) (take at d ++ on_front t (drop at d))
in_rest d t at h =
    record {
      room = h;
      place = refl;
      stored = rw (drop-drop (length t) at d, ← append_assoc (take at d) t (drop (at + length t) d)) (sym (sets-eq t d at h));
    }

-- a text that was put at the front has room
pub front_within :
    (d t : List ℕ) {d₁ : List ℕ} {r : ℕ} → AtFront t r d d₁ → length d₁ ≡ length d → r ≤ length d₁
front_within d t {d₁} {r} p same = omega (arith, p.count, simp (length-append, length-drop) at (ap length p.leaves))
