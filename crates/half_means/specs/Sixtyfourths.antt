-- A whole number divided by 64 as an f64: nothing is lost.
-- `round` of a fraction sees only its value (`round_same`), and changes nothing where the format holds it (`round_exact`). A float that
-- fits is written in one way: its bit pattern is told by its sign and value alone, and the pattern gives it back (`only_one`).
use Rattle.std.specs.Prelude.{◌≡◌, refl, Bool, true, not, cond, ℕ, zero, suc, ◌+◌, ◌-◌, ◌*◌, ◌/◌, ◌^◌, ◌<◌, ◌≤◌, T, leb, pos, negsuc, Float}
use Rattle.std.proofs.Common.{sym, ap, ◌∙◌, subst, true≢false, zero-add, mul-one, mul_assoc, mul_comm, mul_right_comm, lt_of_lt_of_le, le_of_lt, mul-pos, arith, le-leb, leb→le, le→leb, lit<, lit≤, pow_mono, shl_lt}
use Rattle.std.proofs.Math.Bool.{false}
use Rattle.std.proofs.lemmas.Bool.{lt-leb}
use Rattle.std.proofs.Math.Dec.{nleb→lt}
use Rattle.std.specs.Int.Count.{count_trailing_zeros}
use Rattle.std.specs.Float.{nan, inf, fin, Format}
use Rattle.std.specs.Float.Ieee.{binary64, prec, low, up, down, minus, size, odd, round, mul, div, of_int, to_unsigned, in_float, fits, hid, top, to_bits, of_bits}
use Rattle.std.specs.Float.Ieee.Fits.{round-fits, odd-fits, down_pos}
use Rattle.std.specs.Float.Ieee.Exact.{HasValue, odd_sign, round_exact}
use Rattle.std.specs.Float.Ieee.Back.{round_whole, unsigned_back}
use Rattle.std.specs.Float.Ieee.Bits.{of_bits-to_bits}
use Rattle.std.specs.Float.Ieee.Nearest.{div_same}
use Rattle.std.specs.Float.Ieee.Scale.{round_same}
use Rattle.half_means.specs.HalfMeans.{sixty_fourth}

-- A float that fits is written in one way.

-- the bit pattern of a sign and a magnitude in units of the format's smallest value
abbrev pattern : Format → Bool → ℕ → ℕ
pattern f s n = cond s (top f) 0 + (size n - prec f) * hid f + n / 2 ^ (size n - prec f)

pattern_of : (f : Format) (x : Float) (s : Bool) (a c : ℕ) → 0 < c → HasValue x s a c → to_bits f x ≡ pattern f s (a * 2 ^ low f / c)
unfolding to_bits
pattern_of f nan s a c h v = elim v [ ]
pattern_of f (inf _) s a c h v = elim v [ ]
pattern_of f (fin t m e) s a c h v =
    ap (λ (u : Bool). pattern f u (m * up e * 2 ^ low f / down e)) v.0
    ∙ ap (pattern f s) (div_same (m * up e * 2 ^ low f) (down e) (a * 2 ^ low f) c (down_pos e) h
    (mul_right_comm (m * up e) (2 ^ low f) c ∙ ap (λ (k : ℕ). k * 2 ^ low f) v.1 ∙ mul_right_comm a (down e) (2 ^ low f)))

-- two floats of a format that have the same sign and value are one
pub only_one : (f : Format) (x y : Float) (s : Bool) (a c : ℕ) → 0 < c → T (fits f x) → T (fits f y) → HasValue x s a c → HasValue y s a c → x ≡ y
only_one f x y s a c h p q v w =
    sym (of_bits-to_bits f x p) ∙ ap (of_bits f) (pattern_of f x s a c h v ∙ sym (pattern_of f y s a c h w)) ∙ of_bits-to_bits f y q

-- A sixty-fourth.

-- n / 2 ^ 6 written the one way, an odd number times a power of two: finite, not negative, and 64 times its value is n
abbrev one_way : ℕ → Float
one_way n = odd (prec binary64) false n 0 6

one_way_exact : (n : ℕ) → HasValue (one_way n) false n 64
one_way_exact n = subst (λ (a : ℕ). HasValue (one_way n) false a 64) (mul-one n) (odd_sign (prec binary64) false n 0 6)

minus_moved : (t : ℕ) → minus (1068 + t) 1074 ≡ minus t 6
minus_moved t = go (leb 6 t) (leb→le 6 t) (nleb→lt 6 t)
  where
    go : (b : Bool) → (T b → 6 ≤ t) → (T (not b) → t < 6) → minus (1068 + t) 1074 ≡ cond b (pos (t - 6)) (negsuc (6 - suc t))
    go true h k =
        let l : 6 ≤ t = h tt in
        simp (le-leb 1074 (1068 + t) (omega arith)) (ap pos (omega arith))
    go false h k =
        let l : t < 6 = k tt in
        simp (lt-leb 1074 (1068 + t) (omega arith)) (ap negsuc (omega arith))

-- the same in units of the smallest f64, 2 ^ -1074
odd_moved : (n : ℕ) → odd 53 false n 1068 1074 ≡ odd 53 false n 0 6
unfolding odd
odd_moved zero = refl
odd_moved (suc n) =
    let t = count_trailing_zeros 53 (suc n) in
    ap (fin false (suc n / 2 ^ t)) (minus_moved t ∙ ap (λ (k : ℕ). minus k 6) (sym (zero-add t)))

module _ (n : ℕ) (h : n < 2 ^ 53) where
  reach : n * 2 ^ 1068 < 2 ^ 2098
  reach = lt_of_lt_of_le (shl_lt 53 1068 h) (pow_mono {i = 53 + 1068} {j = 2098} (lit≤ tt))

  -- an f64 holds it
  pub held : T (fits binary64 (one_way n))
  held = subst (λ (x : Float). T (fits binary64 x)) (odd_moved n) (odd-fits binary64 53 false n 1068 h (le_of_lt h) reach)

  -- rounding n / 64 changes nothing
  pub rounded : sixty_fourth n ≡ one_way n
  unfolding sixty_fourth
  rounded =
      only_one binary64 (round binary64 false n 64) (one_way n) false n 64 (lit< tt) (round-fits binary64 false n 64) held
      (round_exact binary64 false n 64 n 1068 (lit< tt) h reach (sym (mul_assoc n (2 ^ 1068) 64)))
      (one_way_exact n)

  -- it is n / 64: finite, not negative, and 64 times its value is n
  pub exact : HasValue (sixty_fourth n) false n 64
  exact = subst (λ (x : Float). HasValue x false n 64) (sym rounded) (one_way_exact n)

-- a float that is n, divided by 64
quotient : (x : Float) (n : ℕ) → HasValue x false n 1 → div binary64 x (fin false 1 (pos 6)) ≡ round binary64 false n 64
unfolding div
quotient nan n v = elim v [ ]
quotient (inf _) n v = elim v [ ]
quotient (fin true m e) n v = absurd (true≢false v.0)
quotient (fin false m e) n v =
    round_same binary64 false (m * up e * 1) (64 * down e) n 64 (mul-pos (lit< tt) (down_pos e)) (lit< tt)
    (ap (λ (k : ℕ). k * 64) v.1 ∙ mul_assoc n (down e) 64 ∙ ap (λ (k : ℕ). n * k) (mul_comm (down e) 64))

-- an f64's division of a whole number below 2 ^ 53 by 64 loses nothing
pub divided : (n : ℕ) → n < 2 ^ 53 → div binary64 (of_int binary64 (pos n)) (fin false 1 (pos 6)) ≡ sixty_fourth n
unfolding of_int sixty_fourth
divided n h = quotient (round binary64 false n 1) n (round_whole binary64 false n (le_of_lt h))

-- The sum comes back.

-- a float that is n / 64, times 64
product : (x : Float) (n : ℕ) → HasValue x false n 64 → mul binary64 x (fin false 1 (pos 6)) ≡ round binary64 false n 1
unfolding mul
product nan n v = elim v [ ]
product (inf _) n v = elim v [ ]
product (fin true m e) n v = absurd (true≢false v.0)
product (fin false m e) n v =
    round_same binary64 false (m * up e * 64) (down e * 1) n 1 (mul-pos (down_pos e) (lit< tt)) (lit< tt)
    (mul-one (m * up e * 64) ∙ v.1 ∙ ap (λ (k : ℕ). n * k) (sym (mul-one (down e))))

-- 64 times the float is a whole number again, the same one
pub multiplied : (n : ℕ) → n < 2 ^ 32 → to_unsigned 32 (mul binary64 (sixty_fourth n) (fin false 1 (pos 6))) ≡ n
unfolding of_int in_float
multiplied n h =
    ap (to_unsigned 32) (product (sixty_fourth n) n (exact n (lt_of_lt_of_le h (lit≤ tt))))
    ∙ (unsigned_back binary64 32 n (le→leb n (2 ^ 53) (le_of_lt (lt_of_lt_of_le h (lit≤ tt)))) h).1

-- Some of them: 0, 1, 65 / 64 with its bits, and the largest mean, 254.
pub samples : (sixty_fourth 0 ≡ fin false 0 (pos 0))
    × (sixty_fourth 64 ≡ fin false 1 (pos 0))
    × (sixty_fourth 65 ≡ fin false 65 (negsuc 5))
    × (sixty_fourth 16256 ≡ fin false 127 (pos 1))
    × (to_bits binary64 (sixty_fourth 65) ≡ 0x3FF0_4000_0000_0000)
unfolding odd to_bits
samples = (
  rounded 0 (lit< tt),
  rounded 64 (lit< tt),
  rounded 65 (lit< tt),
  rounded 16256 (lit< tt),
  ap (to_bits binary64) (rounded 65 (lit< tt)),
)
