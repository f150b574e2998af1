-- A message's line one character after another; and a message written in hex is read as itself.
use Rattle.std.specs.Prelude.{◌≡◌, refl, true, ◌&&◌, List, [], ◌∷◌, ℕ, suc, ◌+◌, ◌/◌, ◌%◌, ◌<◌, ◌≤◌, eqb, ltb, length, drop, get_or}
use Rattle.std.proofs.Common.{sym, ap, ◌∙◌, add-one, arith, ltb-true, eqb-true, length-drop, drop-cons, drop-drop}
use Rattle.bits.specs.Every.{and_left, and_right, each}
use Rattle.text.specs.Text.{space, hex_digit}
use Rattle.two_wire_text.specs.Hex.{hex_bytes, all_bytes, digit_of, char_fits, chars_fit, is_message, byte_of, bytes_of}

-- One character after another.

module _ (line : List ℕ) (i : ℕ) (h : i < length line) where
  pub chars_step : chars_fit i (drop i line) ≡ (char_fits i (get_or line i 0) && chars_fit (i + 1) (drop (i + 1) line))
  chars_step =
      ap (chars_fit i) (drop-cons line i 0 h)
      ∙ ap (λ (k : ℕ). char_fits i (get_or line i 0) && chars_fit (i + 1) (drop k line)) (sym (add-one i))

bytes_cons : (a b : ℕ) (line : List ℕ) → bytes_of (a ∷ b ∷ line) ≡ byte_of a b ∷ bytes_of (drop 1 line)
bytes_cons a b [] = refl
bytes_cons a b (c ∷ line) = refl

pub bytes_step : (line : List ℕ) (i : ℕ) → i + 1 < length line
    → bytes_of (drop i line) ≡ byte_of (get_or line i 0) (get_or line (i + 1) 0) ∷ bytes_of (drop (i + 3) line)
bytes_step line i h =
    let l : i < length line = omega arith in
    let two : List ℕ = drop (suc (i + 1)) line in
    let e : suc (i + 1) + 1 ≡ i + 3 = omega arith in
    ap bytes_of
    (drop-cons line i 0 l ∙ ap (λ (k : ℕ). get_or line i 0 ∷ drop k line) (sym (add-one i)) ∙ ap (λ (t : List ℕ). get_or line i 0 ∷ t) (drop-cons line (i + 1) 0 h))
    ∙ bytes_cons (get_or line i 0) (get_or line (i + 1) 0) two
    ∙ ap (λ (t : List ℕ). byte_of (get_or line i 0) (get_or line (i + 1) 0) ∷ bytes_of t) (drop-drop 1 (suc (i + 1)) line ∙ ap (λ (k : ℕ). drop k line) e)

few : (line : List ℕ) → length line ≤ 1 → bytes_of line ≡ []
few [] h = refl
few (a ∷ []) h = refl
few (a ∷ b ∷ line) h = absurd (omega arith)

pub bytes_end : (line : List ℕ) (i : ℕ) → length line ≤ i + 1 → bytes_of (drop i line) ≡ []
bytes_end line i h = few (drop i line) (omega (arith, length-drop i line))

-- a third of the line's characters, and one
pub bytes_length : (line : List ℕ) → length (bytes_of line) ≤ length line / 3 + 1
bytes_length [] = omega arith
bytes_length (a ∷ []) = omega arith
bytes_length (a ∷ b ∷ []) = omega arith
bytes_length (a ∷ b ∷ c ∷ line) = omega (arith, bytes_length line)

-- What is written is read.

byte_back : (b : ℕ) → b < 256 → byte_of (hex_digit (b / 16)) (hex_digit (b % 16)) ≡ b
unfolding byte_of hex_digit digit_of
byte_back b h = eqb-true _ _ (each (λ n. eqb (byte_of (hex_digit (n / 16)) (hex_digit (n % 16))) n) 256 refl b h)

digit_back : (n : ℕ) → n < 16 → ltb (digit_of (hex_digit n)) 16 ≡ true
unfolding hex_digit digit_of
digit_back n h = each (λ m. ltb (digit_of (hex_digit m)) 16) 16 refl n h

high_fits : (place b : ℕ) → place % 3 ≡ 0 → b < 256 → char_fits place (hex_digit (b / 16)) ≡ true
unfolding char_fits
high_fits place b p h = simp (p, digit_back (b / 16) (omega arith))

low_fits : (place b : ℕ) → place % 3 ≡ 1 → char_fits place (hex_digit (b % 16)) ≡ true
unfolding char_fits
low_fits place b p = simp (p, digit_back (b % 16) (omega arith))

space_fits : (place : ℕ) → place % 3 ≡ 2 → char_fits place space ≡ true
unfolding char_fits
space_fits place p = simp p

chars_written : (bytes : List ℕ) (place : ℕ) → place % 3 ≡ 0 → all_bytes bytes ≡ true → chars_fit place (hex_bytes bytes) ≡ true
chars_written [] place p a = refl
chars_written (b ∷ []) place p a =
    let h : b < 256 = ltb-true b 256 (and_left (ltb b 256) true a) in
    simp (high_fits place b p h, low_fits (place + 1) b (omega arith))
chars_written (b ∷ d ∷ bytes) place p a =
    let h : b < 256 = ltb-true b 256 (and_left (ltb b 256) (all_bytes (d ∷ bytes)) a) in
    simp (high_fits place b p h, low_fits (place + 1) b (omega arith), space_fits (place + 1 + 1) (omega arith))
    (chars_written (d ∷ bytes) (place + 1 + 1 + 1) (omega arith) (and_right (ltb b 256) (all_bytes (d ∷ bytes)) a))

thirds : (b : ℕ) (bytes : List ℕ) → length (hex_bytes (b ∷ bytes)) % 3 ≡ 2
thirds b [] = refl
thirds b (d ∷ bytes) = omega (arith, thirds d bytes)

bytes_written : (bytes : List ℕ) → all_bytes bytes ≡ true → bytes_of (hex_bytes bytes) ≡ bytes
bytes_written [] a = refl
bytes_written (b ∷ []) a = ap (λ (n : ℕ). n ∷ []) (byte_back b (ltb-true b 256 (and_left (ltb b 256) true a)))
bytes_written (b ∷ d ∷ bytes) a =
    rw (byte_back b (ltb-true b 256 (and_left (ltb b 256) (all_bytes (d ∷ bytes)) a)))
    (ap (λ (l : List ℕ). b ∷ l) (bytes_written (d ∷ bytes) (and_right (ltb b 256) (all_bytes (d ∷ bytes)) a)))

-- a message written in hex is a message's line, and its bytes are the message
pub message_written : (b : ℕ) (bytes : List ℕ) → all_bytes (b ∷ bytes) ≡ true
    → (is_message (hex_bytes (b ∷ bytes)) ≡ true) × (bytes_of (hex_bytes (b ∷ bytes)) ≡ b ∷ bytes)
unfolding is_message
message_written b bytes a = (simp (thirds b bytes) (chars_written (b ∷ bytes) 0 refl a), bytes_written (b ∷ bytes) a)
