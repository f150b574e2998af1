-- Laws of the rows: how long they can be, and that what they say of a line is exact.
use Rattle.std.specs.Prelude.{◌≡◌, refl, Bool, true, false, cond, List, [], ◌∷◌, ◌++◌, ℕ, zero, suc, ◌+◌, ◌-◌, ◌*◌, ◌/◌, ◌%◌, ◌≤◌, ◌<◌, ◌^◌, ltb, eqb, ℤ, pos, negsuc, ◌-ℤ◌, Float, length, Result, Ok, Err}
use Rattle.std.proofs.Common.{sym, ap, ap₂, subst, ◌∙◌, mul_assoc, mul_right_comm, arith, lt-ltb, le-ltb, length-append}
use Rattle.std.specs.Float.{nan, inf, fin}
use Rattle.std.specs.Float.Ieee.{up, down}
use Rattle.std.specs.Float.Ieee.Exact.{HasValue}
use Rattle.refusal.specs.declared.Refusal.{Refusal}
use Rattle.refusal.specs.Refusal.{bad_gap}
use Rattle.text.specs.Text.{ascii, space, newline, digit, digits, decimal}
use Rattle.text.specs.TextLaws.{decimal_short}
use Rattle.half_means.specs.declared.Means.{Means}
use Rattle.half_means.specs.declared.Sums.{Sums}
use Rattle.half_means.specs.declared.Halves.{Halves}
use Rattle.half_means.specs.HalfMeans.{half_length, first_sum, second_sum, difference, given, halves_of}
use Rattle.half_means.specs.HalfMeansLaws.{given_exact}
use Rattle.mean_rows.specs.MeanRows.{places, minus_sign, signed, millionths, whole_part, fraction, mean_text, start_words, means_words, differences_words, given_row, gap_refusal_words, refused_row, means_row, means_room}

-- Lengths.

places_length : (k n : ℕ) → length (places k n) ≡ k
places_length zero n = refl
places_length (suc k) n = length-append (places k (n / 10)) (digit (n % 10) ∷ []) ∙ (let e = places_length k (n / 10) in omega arith)

mean_short : (s : ℕ) → length (mean_text s) ≤ 27
unfolding mean_text
mean_short s =
    simp length-append (omega (arith, decimal_short (s / half_length), places_length 6 (s % half_length * millionths)))

signed_short : (z : ℤ) → length (signed z) ≤ 21
signed_short (pos n) = omega (arith, decimal_short n)
signed_short (negsuc n) = omega (arith, decimal_short (suc n))

reason_short : (n : ℕ) → length (gap_refusal_words n) ≤ 9
unfolding gap_refusal_words
reason_short n = either (eqb n bad_gap)
  where
    either : (b : Bool) → length (cond b (ascii ", bad gap") []) ≤ 9
    either true = omega arith
    either false = omega arith

-- no row is longer than the room that is asked for it
pub row_short : (number a b : ℕ) (h : Result Halves Refusal) → length (means_row number a b h) ≤ means_room
unfolding means_row given_row start_words means_words differences_words refused_row
row_short number a b (Ok h) =
    simp length-append (
    omega (
      arith,
      decimal_short number,
      decimal_short a,
      decimal_short b,
      mean_short h.sums.first,
      mean_short h.sums.second,
      signed_short (difference a h.sums.first),
      signed_short (difference b h.sums.second),
    )
    )
row_short number a b (Err r) = simp length-append (omega (arith, decimal_short number, decimal_short r.0, reason_short r.0))

-- Signs.

-- a difference of two numbers, by which is the greater
pub signed_less : (a s : ℕ) → a < s → signed (pos a -ℤ pos s) ≡ minus_sign ∷ decimal (s - a)
signed_less a zero h = absurd (omega arith)
signed_less a (suc s) h =
    ap (λ (b : Bool). signed (cond b (negsuc (suc s - suc a)) (pos (a - suc s)))) (lt-ltb a (suc s) h)
    ∙ ap (λ (n : ℕ). minus_sign ∷ decimal n) (let z : suc (suc s - suc a) ≡ suc s - a = omega arith in z)

pub signed_more : (a s : ℕ) → s ≤ a → signed (pos a -ℤ pos s) ≡ decimal (a - s)
signed_more a zero h = ap decimal (let z : a + zero ≡ a - zero = omega arith in z)
signed_more a (suc s) h = ap (λ (b : Bool). signed (cond b (negsuc (suc s - suc a)) (pos (a - suc s)))) (le-ltb a (suc s) h)

-- Digits read back.

-- the number that digits make after another one
abbrev pub read : ℕ → List ℕ → ℕ
read n [] = n
read n (d ∷ ds) = read (10 * n + (d - digit 0)) ds

-- ten times a number, k times over
abbrev pub scaled : ℕ → ℕ → ℕ
scaled zero n = n
scaled (suc k) n = 10 * scaled k n

read_append : (v w : List ℕ) (n : ℕ) → read n (v ++ w) ≡ read (read n v) w
read_append [] w n = refl
read_append (d ∷ v) w n = read_append v w (10 * n + (d - digit 0))

read_last : (v : List ℕ) (n d m : ℕ) → read n v ≡ m → read n (v ++ (digit d ∷ [])) ≡ 10 * m + d
read_last v n d m e =
    read_append v (digit d ∷ []) n ∙ ap (λ (x : ℕ). 10 * x + (digit d - digit 0)) e
    ∙ (let z : 10 * m + (digit d - digit 0) ≡ 10 * m + d = omega arith in z)

-- one more digit than of a tenth
read_places : (k n a : ℕ) → n < scaled k 1 → read a (places k n) ≡ scaled k a + n
read_places zero n a h = omega arith
read_places (suc k) n a h =
    read_last (places k (n / 10)) a (n % 10) (scaled k a + n / 10) (read_places k (n / 10) a (omega arith))
    ∙ (let z : 10 * (scaled k a + n / 10) + n % 10 ≡ 10 * scaled k a + n = omega arith in z)

read_digits : (k n : ℕ) → n < scaled k 1 → read 0 (digits k n) ≡ n
read_digits zero n h = omega arith
read_digits (suc k) n h = by (ltb n 10) refl (read_digits k (n / 10) (omega arith))
  where
    by : (b : Bool) → ltb n 10 ≡ b → read 0 (digits k (n / 10)) ≡ n / 10
        → read 0 (cond b (digit n ∷ []) (digits k (n / 10) ++ (digit (n % 10) ∷ []))) ≡ n
    by true e rest = omega arith
    by false e rest =
        read_last (digits k (n / 10)) 0 (n % 10) (n / 10) rest
        ∙ (let z : 10 * (n / 10) + n % 10 ≡ n = omega arith in z)

-- The text of a mean.

-- its digits, on both sides of the point, make 15,625 times the sum
mean_digits : (s : ℕ) → s < 2 ^ 16 → read 0 (whole_part s ++ fraction s) ≡ s * millionths
unfolding decimal
mean_digits s h =
    read_append (whole_part s) (fraction s) 0
    ∙ ap (λ (n : ℕ). read n (fraction s)) (read_digits 20 (s / half_length) (omega arith))
    ∙ read_places 6 (s % half_length * millionths) (s / half_length) (omega arith)
    ∙ (let z : scaled 6 (s / half_length) + s % half_length * millionths ≡ s * millionths = omega arith in z)

-- a value in 64ths is one in millionths
in_millionths : (x : Float) (n : ℕ) → HasValue x false n half_length → HasValue x false (n * millionths) 1000000
in_millionths nan n v = elim v [ ]
in_millionths (inf _) n v = elim v [ ]
in_millionths (fin t m e) n v = (
  v.0,
  (let z : m * up e * 1000000 ≡ m * up e * half_length * millionths = sym (mul_assoc (m * up e) half_length millionths) in z)
      ∙ ap (λ (k : ℕ). k * millionths) v.1
      ∙ mul_right_comm n (down e) millionths,
)

-- the digits of the text, six of them after the point, are exactly the value of a mean
text_exact : (x : Float) (s : ℕ) → s < 2 ^ 16 → HasValue x false s half_length → HasValue x false (read 0 (whole_part s ++ fraction s)) 1000000
text_exact x s h v = subst (λ (n : ℕ). HasValue x false n 1000000) (sym (mean_digits s h)) (in_millionths x s v)

-- The row.

-- what a row tells of a line: its number and the sensor's means, two texts that are exactly the means, and the differences with their signs
pub record Tells (row : List ℕ) (number a b : ℕ) (m : Means) (d e : ℤ) : Type 0 where
  pub first : ℕ
  pub second : ℕ
  pub row_is : row ≡ start_words number a b
      ++ ((mean_text first ++ (space ∷ (mean_text second ++ (space ∷ [])))) ++ (signed d ++ (space ∷ (signed e ++ (newline ∷ [])))))
  pub first_text : HasValue m.first false (read 0 (whole_part first ++ fraction first)) 1000000
  pub second_text : HasValue m.second false (read 0 (whole_part second ++ fraction second)) 1000000

-- whatever is given of a line, its row tells
pub row_tells : (number profile kind : ℕ) (body : List ℕ) (a b : ℕ) (m : Means) (s : Sums) (d e : ℤ)
    → halves_of profile kind body a b ≡ given m s d e → Tells (means_row number a b (given m s d e)) number a b m d e
unfolding means_row given_row means_words differences_words
row_tells number profile kind body a b m s d e h =
    let g = given_exact profile kind body a b m s d e h in
    record {
      first = first_sum body;
      second = second_sum body;
      row_is =
          ap (λ (x : Sums). given_row number a b x) g.sums
          ∙ ap₂ (λ (x y : ℤ). start_words number a b
          ++ ((mean_text (first_sum body) ++ (space ∷ (mean_text (second_sum body) ++ (space ∷ [])))) ++ (signed x ++ (space ∷ (signed y ++ (newline ∷ []))))))
          (sym g.first_difference) (sym g.second_difference);
      first_text = text_exact m.first (first_sum body) (omega (arith, g.first_below)) g.first_exact;
      second_text = text_exact m.second (second_sum body) (omega (arith, g.second_below)) g.second_exact;
    }
