-- How long the line on a mark can be; and the bytes in hex one at a time.
use Rattle.std.specs.Prelude.{◌≡◌, refl, Bool, true, false, List, [], ◌∷◌, ◌++◌, ℕ, zero, suc, ◌+◌, ◌-◌, ◌*◌, ◌/◌, ◌%◌, ◌≤◌, ◌<◌, min, leb, ltb, length, take, drop, get_or}
use Rattle.std.proofs.Common.{ap, ap₂, sym, subst, ◌∙◌, arith, length-append, length-take, length-drop, take_all, leb-true, leb-false}
use Rattle.text.specs.Put.{Puts}
use Rattle.text.specs.TextLaws.{decimal_short}
use Rattle.stream.specs.Written.{nibbles}
use Rattle.stream.specs.NibblesLaws.{nibbles_length}
use Rattle.capture_bytes.specs.Unpacked.{unpacked}
use Rattle.capture_bytes.specs.UnpackedLaws.{front_nibbles, drop_most}
use Rattle.why_words.specs.ReasonWordsLaws.{either_short, reason_short}
use Rattle.mark_finder.specs.declared.Located.{Located}
use Rattle.mark_finder.specs.MarkFinder.{span}
use Rattle.why_line.specs.ReasonText.{most_bytes, nibbles_before, run_in, reason_in, code_in, is_beyond, mark_words, bad_place, spaced_hex, hexes, shown_beside, around_bad, around_words, mark_line, line_room}

-- Bytes in hex.

hexes_length : (bs : List ℕ) → length (hexes bs) ≡ 3 * length bs
hexes_length [] = refl
hexes_length (b ∷ bs) = let e = hexes_length bs in omega arith

take_short : (n : ℕ) (w : List ℕ) → length (take n w) ≤ n
take_short zero w = omega arith
take_short (suc n) [] = omega arith
take_short (suc n) (x ∷ w) = let h = take_short n w in omega arith

-- the bytes between two places, in hex
span_short : (bytes : List ℕ) (from to n : ℕ) → to - from ≤ n → length (hexes (span bytes from to)) ≤ 3 * n
span_short bytes from to n h = omega (arith, hexes_length (span bytes from to), take_short (to - from) (drop from bytes))

-- from a place up to at most some later one
up_to : (limit place n : ℕ) → min limit (place + n) - place ≤ n
up_to limit place n = omega arith

around_short : (bytes : List ℕ) (i more : ℕ) → more ≤ 1 → length (around_bad bytes i more) ≤ 32
unfolding around_bad
around_short bytes i more h =
    let from = i - min i shown_beside in
    let end = min (length bytes) (i + 1 + more) in
    let to = min (length bytes) (end + shown_beside) in
    let few : i - from ≤ shown_beside = omega arith in
    let a = span_short bytes from i shown_beside few in
    let b = span_short bytes (i + 1) end more (up_to (length bytes) (i + 1) more) in
    let c = span_short bytes end to shown_beside (up_to (length bytes) end shown_beside) in
    simp length-append (shorter _ _ _ more a b c h)
  where
    shorter : (x y z m : ℕ) → x ≤ 3 * 4 → y ≤ 3 * m → z ≤ 3 * 4 → m ≤ 1 → x + suc (suc (suc (suc (y + (1 + z))))) ≤ 32
    shorter x y z m a b c h = omega arith

around_words_short : (bytes : List ℕ) (low : Bool) (place : ℕ) → length (around_words bytes low place) ≤ 40
unfolding around_words
around_words_short bytes low place =
    let n = nibbles_before low + place in
    either_short (ltb 0 place) _ _ 40
    (either_short (ltb (n / 2) (length bytes)) _ _ 40 (simp length-append (omega (arith, around_short bytes (n / 2) (n % 2) (omega arith)))) (omega arith))
    (omega arith)

-- no line is longer than the room that is asked for it
pub mark_line_short : (m : Located) (bytes : List ℕ) → length (mark_line m bytes) ≤ line_room
unfolding mark_line mark_words
mark_line_short m bytes =
    simp length-append
    (omega (arith, decimal_short m.number, decimal_short m.place, reason_short (is_beyond bytes) m.refusal (code_in m.low bytes) (reason_in m bytes), around_words_short bytes m.low (bad_place m.profile (reason_in m bytes))))

-- one byte more, and all of them
pub hexes_more : (bs : List ℕ) (i : ℕ) → i < length bs → hexes (take (suc i) bs) ≡ hexes (take i bs) ++ spaced_hex (get_or bs i 0)
hexes_more [] i h = absurd (omega arith)
hexes_more (b ∷ bs) zero h = refl
hexes_more (b ∷ bs) (suc i) h = ap (λ (l : List ℕ). spaced_hex b ++ l) (hexes_more bs i (omega arith))

pub hexes_whole : (bs : List ℕ) (i : ℕ) {d d₁ : List ℕ} {at r : ℕ} → length bs ≤ i → Puts d at (hexes (take i bs)) r d₁ → Puts d at (hexes bs) r d₁
hexes_whole bs i {d} {d₁} {at} {r} h p = subst (λ (t : List ℕ). Puts d at (hexes t) r d₁) (take_all i bs h) p

-- The run that is explained.

take_min : (l : List ℕ) (n r : ℕ) → r ≡ min (length l) n → take r l ≡ take n l
take_min l n r e = go (leb n (length l)) refl
  where
    go : (b : Bool) → leb n (length l) ≡ b → take r l ≡ take n l
    go true f = let h = leb-true n (length l) f in ap (λ (k : ℕ). take k l) (let z : r ≡ n = omega arith in z)
    go false f = let h = leb-false n (length l) f in take_all r l (omega arith) ∙ sym (take_all n l (omega arith))

-- bytes that were taken apart, as many as are looked at: their nibbles from the mark on
pub run_is : (bs d w : List ℕ) (r i : ℕ) (low : Bool) → r ≡ min (length bs) most_bytes → w ≡ unpacked bs d r → i ≡ min (nibbles_before low) (2 * r)
    → take (length (take (2 * r) w) - i) (drop i (take (2 * r) w)) ≡ run_in low bs
run_is bs d w r i low e f g =
    ap₂ (λ (v : List ℕ) (k : ℕ). take (length v - k) (drop k v)) all skip
    ∙ take_all (length X - m) (drop m X) (omega (arith, length-drop m X))
    ∙ drop_most (nibbles_before low) X
  where
    X : List ℕ
    X = nibbles (take most_bytes bs)

    m : ℕ
    m = min (nibbles_before low) (length X)

    all : take (2 * r) w ≡ X
    all = ap (take (2 * r)) f ∙ front_nibbles bs r (omega arith) d ∙ ap nibbles (take_min bs most_bytes r e)

    long : length X ≡ 2 * r
    long = omega (arith, nibbles_length (take most_bytes bs), length-take most_bytes bs)

    skip : i ≡ m
    skip = g ∙ ap (min (nibbles_before low)) (sym long)
