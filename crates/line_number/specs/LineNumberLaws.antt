-- Laws of line numbers: what is encoded decodes to itself and nothing else decodes, and a number byte with one bit flipped is refused.
use Rattle.std.specs.Prelude.{◌≡◌, refl, Bool, true, false, not, cond, ℕ, ◌*◌, ◌+◌, ◌/◌, ◌%◌, ◌<◌, ◌≤◌, eqb, ltb, None, Some}
use Rattle.std.proofs.Common.{sym, ap, true≢false, arith, ltb-true, eqb-true, le-leb}
use Rattle.std.proofs.lemmas.Bool.{not-true}
use Rattle.std.specs.Int.Count.{ones, ones_in}
use Rattle.bits.specs.Bits.{flipped}
use Rattle.bits.specs.Every.{and_left, and_right, every, each}
use Rattle.line_number.specs.LineNumber.{greatest, number_byte, number_good, two_bytes, encode_of, decode_of}

-- a test that is asked for only where another passes
then : (a b : Bool) → cond a b true ≡ true → a ≡ true → b ≡ true
then true b h t = h
then false b h t = absurd (true≢false (sym t))

-- Number bytes.

pub byte_good : (v : ℕ) → v < 64 → number_good (number_byte v) ≡ true
unfolding number_good number_byte ones ones_in
byte_good v h = each (λ n. number_good (number_byte n)) 64 refl v h

pub byte_value : (v : ℕ) → v < 64 → number_byte v / 2 ≡ v
unfolding number_byte
byte_value v h = omega arith

pub byte_small : (v : ℕ) → v < 64 → number_byte v < 128
unfolding number_byte
byte_small v h = omega arith

good_small : (b : ℕ) → number_good b ≡ true → b < 128
unfolding number_good
good_small b g = ltb-true b 128 (and_left (ltb b 128) (eqb (ones b % 2) 1) g)

pub good_byte : (b : ℕ) → number_good b ≡ true → (b / 2 < 64) × (b ≡ number_byte (b / 2))
unfolding number_good number_byte ones ones_in
good_byte b g =
    let s : b < 128 = good_small b g in
    (omega arith, eqb-true _ _ (then (number_good b) _ (each (λ n. cond (number_good n) (eqb n (number_byte (n / 2))) true) 128 refl b s) g))

pub one_flip : (b i : ℕ) → b < 256 → i < 8 → number_good b ≡ true → number_good (flipped b i) ≡ false
unfolding number_good ones ones_in
one_flip b i h l g =
    not-true _
    (each (λ m. not (number_good (flipped b m))) 8
    (then (number_good b) _ (each (λ n. cond (number_good n) (every (λ m. not (number_good (flipped n m))) 8) true) 256 refl b h) g) i l)

-- Numbers.

pub decode_encode : (n : ℕ) → n ≤ greatest → decode_of (number_byte (n / 64)) (number_byte (n % 64)) ≡ Some n
decode_encode n h =
    let high : n / 64 < 64 = omega arith in
    let low : n % 64 < 64 = omega arith in
    simp (byte_good (n / 64) high, byte_good (n % 64) low)
    (ap Some (omega (arith, byte_value (n / 64) high, byte_value (n % 64) low)))

known : (t : Bool) (m n : ℕ) → cond t (Some m) None ≡ Some n → (t ≡ true) × (m ≡ n)
known true m n h = (refl, cc)
known false m n h = (cc, cc)

-- bytes that decode to a number are those that it is encoded as
pub decoded : (a b n : ℕ) → decode_of a b ≡ Some n → (n ≤ greatest) × (encode_of n ≡ two_bytes a b)
decoded a b n h =
    let k = known _ _ _ h in
    let p = good_byte a (and_left (number_good a) (number_good b) k.0) in
    let q = good_byte b (and_right (number_good a) (number_good b) k.0) in
    let e : 64 * (a / 2) + b / 2 ≡ n = k.1 in
    let l : n ≤ greatest = omega arith in
    let high : n / 64 ≡ a / 2 = omega arith in
    let low : n % 64 ≡ b / 2 = omega arith in
    (l, simp (le-leb n greatest l, high, low, ← p.1, ← q.1))

-- a number's bytes are known from the answer
pub bytes_apart : (a b c d : ℕ) → two_bytes a b ≡ two_bytes c d → (a ≡ c) × (b ≡ d)
bytes_apart a b c d h =
    let p : ℕ × ℕ = (a, b) in
    let q : ℕ × ℕ = (c, d) in
    let e : p ≡ q = cc in
    (ap (λ (p : ℕ × ℕ). p.0) e, ap (λ (p : ℕ × ℕ). p.1) e)

pub decode_injective : (a b c d n : ℕ) → decode_of a b ≡ Some n → decode_of c d ≡ Some n → (a ≡ c) × (b ≡ d)
decode_injective a b c d n h g =
    let p = (decoded a b n h).1 in
    let q = (decoded c d n g).1 in
    bytes_apart _ _ _ _ cc
