-- Laws of bytes as nibbles: their lengths, that each is below 16, what stands at the front of the buffer, and the portion from a place on.
use Rattle.std.specs.Prelude.{◌≡◌, refl, Bool, true, false, List, [], ◌∷◌, ◌++◌, ℕ, zero, suc, ◌+◌, ◌-◌, ◌*◌, ◌/◌, ◌%◌, ◌<◌, ◌≤◌, min, leb, length, take, drop, get_or, set}
use Rattle.std.proofs.Common.{◌∙◌, ap, sym, append_assoc, add-one, arith, leb-true, leb-false, length-append, length-take, length-drop, take-append-drop, drop_of_length-le, drop-cons, take-suc, take_at, length-take-le, take-add}
use Rattle.std.proofs.Math.Seq.{drop-nil, drop-append-add}
use Rattle.std.proofs.lemmas.List.{set_at, drop-append-le}
use Rattle.stream.specs.Written.{nibbles}
use Rattle.stream.specs.Nibbles.{AllNibbles, no_nibble, and_nibble}
use Rattle.stream.specs.NibblesLaws.{nibbles_length, nibbles_append}
use Rattle.capture_bytes.specs.Unpacked.{unpacked, portion}

-- a byte's nibbles are nibbles
pub nibbles_small : (bs : List ℕ) → ((i : ℕ) → get_or bs i 0 < 256) → AllNibbles (nibbles bs)
nibbles_small [] h = no_nibble
nibbles_small (b ∷ bs) h =
    let low : b < 256 = h 0 in
    and_nibble {n = b / 16} (omega arith) (and_nibble {n = b % 16} (omega arith) (nibbles_small bs (λ i. h (suc i))))

pub all_nibbles_front : (v w : List ℕ) → AllNibbles (v ++ w) → AllNibbles v
all_nibbles_front [] w q = no_nibble
all_nibbles_front (n ∷ v) w (and_nibble h q) = and_nibble h (all_nibbles_front v w q)

-- the front of what bytes were taken apart into
module _ (bs : List ℕ) (k : ℕ) (h : k ≤ length bs) where
  pub taken_length : length (nibbles (take k bs)) ≡ 2 * k
  taken_length = nibbles_length (take k bs) ∙ ap (λ (n : ℕ). 2 * n) (length-take-le k bs h)

  pub front_nibbles : (d : List ℕ) → take (2 * k) (unpacked bs d k) ≡ nibbles (take k bs)
  front_nibbles d = take_at (nibbles (take k bs)) (drop (2 * k) d) (2 * k) taken_length

-- One byte more.

pub unpack_next : (bs d : List ℕ) (i : ℕ) → i < length bs → 2 * i + 2 ≤ length d
    → set (set (unpacked bs d i) (2 * i) (get_or bs i 0 / 16)) (2 * i + 1) (get_or bs i 0 % 16) ≡ unpacked bs d (i + 1)
unpack_next bs d i h g =
    ap (λ v. set (set (p ++ v) (2 * i) u) (2 * i + 1) v₀) two
    ∙ ap (λ v. set v (2 * i + 1) v₀) (set_at p x (y ∷ r) u (2 * i) len ∙ sym (append_assoc p (u ∷ []) (y ∷ r)))
    ∙ set_at (p ++ (u ∷ [])) y r v₀ (2 * i + 1) (length-append p (u ∷ []) ∙ ap (λ (n : ℕ). n + 1) len)
    ∙ append_assoc p (u ∷ []) (v₀ ∷ r)
    ∙ sym (append_assoc p (u ∷ (v₀ ∷ [])) r)
    ∙ ap (λ v. v ++ r) (sym (nibbles_append (take i bs) (get_or bs i 0 ∷ [])) ∙ ap nibbles (sym (take-suc bs i 0 h)))
    ∙ ap (λ (n : ℕ). nibbles (take n bs) ++ r) (sym (add-one i))
    ∙ ap (λ (n : ℕ). nibbles (take (i + 1) bs) ++ drop n d) (let z : suc (suc (2 * i)) ≡ 2 * (i + 1) = omega arith in z)
  where
    p : List ℕ
    p = nibbles (take i bs)

    u : ℕ
    u = get_or bs i 0 / 16

    v₀ : ℕ
    v₀ = get_or bs i 0 % 16

    x : ℕ
    x = get_or d (2 * i) 0

    y : ℕ
    y = get_or d (suc (2 * i)) 0

    r : List ℕ
    r = drop (suc (suc (2 * i))) d

    len : length p ≡ 2 * i
    len = taken_length bs i (omega arith)

    two : drop (2 * i) d ≡ x ∷ (y ∷ r)
    two = drop-cons d (2 * i) 0 (omega arith) ∙ ap (λ v. x ∷ v) (drop-cons d (suc (2 * i)) 0 (omega arith))

-- A portion.

nibbles_drop : (k : ℕ) (bs : List ℕ) → nibbles (drop k bs) ≡ drop (2 * k) (nibbles bs)
nibbles_drop zero bs = refl
nibbles_drop (suc k) [] = sym (drop-nil (2 * suc k))
nibbles_drop (suc k) (b ∷ bs) =
    nibbles_drop k bs ∙ ap (λ (n : ℕ). drop n (nibbles (b ∷ bs))) (let z : suc (suc (2 * k)) ≡ 2 * suc k = omega arith in z)

module _ (bs : List ℕ) (at end : ℕ) (g : end ≤ length bs) where
  pub portion_length : length (portion bs at end) ≡ 2 * end - at
  portion_length = length-drop at (nibbles (take end bs)) ∙ ap (λ (n : ℕ). n - at) (taken_length bs end g)

  -- the nibbles from a place on are a portion, and those after it
  pub portion_first : drop at (nibbles bs) ≡ portion bs at end ++ drop (at + length (portion bs at end)) (nibbles bs)
  portion_first = go (leb at (2 * end)) refl
    where
      go : (b : Bool) → leb at (2 * end) ≡ b → drop at (nibbles bs) ≡ portion bs at end ++ drop (at + length (portion bs at end)) (nibbles bs)
      go true e =
          let h = leb-true at (2 * end) e in
          ap (λ v. drop at (nibbles v)) (sym (take-append-drop end bs))
          ∙ ap (drop at) (nibbles_append (take end bs) (drop end bs))
          ∙ drop-append-le at (nibbles (take end bs)) (nibbles (drop end bs)) (omega (arith, taken_length bs end g))
          ∙ ap (λ v. portion bs at end ++ v) (nibbles_drop end bs)
          ∙ ap (λ (n : ℕ). portion bs at end ++ drop n (nibbles bs)) (let z : 2 * end ≡ at + length (portion bs at end) = omega (arith, portion_length) in z)
      go false e =
          let h = leb-false at (2 * end) e in
          let none : portion bs at end ≡ [] = drop_of_length-le (nibbles (take end bs)) {i = at} (omega (arith, taken_length bs end g)) in
          ap (λ (n : ℕ). drop n (nibbles bs)) (let z : at ≡ at + length (portion bs at end) = omega (arith, portion_length) in z)
          ∙ ap (λ v. v ++ drop (at + length (portion bs at end)) (nibbles bs)) (sym none)

-- a portion is what the bytes from its place's own on are taken apart into, but for the high nibble where the place is odd
pub portion_bytes : (bs : List ℕ) (at end first : ℕ) → end ≤ length bs → first ≡ min (at / 2) end
    → portion bs at end ≡ drop (at % 2) (nibbles (take (end - first) (drop first bs)))
portion_bytes bs at end first g e = go (leb (at / 2) end) refl
  where
    go : (b : Bool) → leb (at / 2) end ≡ b → portion bs at end ≡ drop (at % 2) (nibbles (take (end - first) (drop first bs)))
    go false f =
        let h = leb-false (at / 2) end f in
        drop_of_length-le (nibbles (take end bs)) {i = at} (omega (arith, taken_length bs end g))
        ∙ sym (drop_of_length-le (nibbles (take (end - first) (drop first bs))) {i = at % 2} (omega (arith, nibbles_length (take (end - first) (drop first bs)), length-take (end - first) (drop first bs), e)))
    go true f =
        let h = leb-true (at / 2) end f in
        ap (λ (n : ℕ). drop at (nibbles (take n bs))) (let z : end ≡ first + (end - first) = omega arith in z)
        ∙ ap (λ v. drop at (nibbles v)) (take-add first (end - first) bs)
        ∙ ap (drop at) (nibbles_append (take first bs) (take (end - first) (drop first bs)))
        ∙ ap (λ (n : ℕ). drop n (nibbles (take first bs) ++ nibbles (take (end - first) (drop first bs))))
        (let l = taken_length bs first (omega arith) in let z : at ≡ length (nibbles (take first bs)) + at % 2 = omega arith in z)
        ∙ drop-append-add (nibbles (take first bs)) (nibbles (take (end - first) (drop first bs))) (at % 2)

-- what is skipped is at most all
pub drop_most : (n : ℕ) (l : List ℕ) → drop (min n (length l)) l ≡ drop n l
drop_most n l = go (leb n (length l)) refl
  where
    go : (b : Bool) → leb n (length l) ≡ b → drop (min n (length l)) l ≡ drop n l
    go true e = let h = leb-true n (length l) e in ap (λ (k : ℕ). drop k l) (let z : min n (length l) ≡ n = omega arith in z)
    go false e =
        let h = leb-false n (length l) e in
        drop_of_length-le l {i = min n (length l)} (omega arith) ∙ sym (drop_of_length-le l {i = n} (omega arith))
