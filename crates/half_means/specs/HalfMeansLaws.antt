-- Laws of the answer: what is given is exact, and how far the sums and differences reach.
use Rattle.std.specs.Prelude.{◌≡◌, Bool, not, cond, List, [], ◌∷◌, ℕ, zero, suc, ◌+◌, ◌-◌, ◌*◌, ◌≤◌, ◌<◌, T, leb, ltb, ℤ, pos, negsuc, ◌-ℤ◌, ◌≤ℤ◌, length, take, drop, replicate, Result, Ok, Err}
use Rattle.std.proofs.Math.Path.{refl, sym, ap, subst}
use Rattle.std.proofs.Common.{◌∙◌, true≢false, lt_of_lt_of_le, arith, eq-eqb, leb-true, lit≤, le→leb, ltb→lt, nltb→le}
use Rattle.std.proofs.Math.Bool.{true, false}
use Rattle.std.specs.Float.Ieee.Exact.{HasValue}
use Rattle.refusal.specs.declared.Refusal.{Refusal}
use Rattle.bits.specs.Every.{and_left, and_right, and_both}
use Rattle.line_code.specs.declared.Kind.TheVariants.{VL}
use Rattle.line_code.specs.LineCode.{kind_number}
use Rattle.profile.specs.declared.Profile.TheVariants.{VV5300}
use Rattle.profile.specs.declared.Rule.{Rule}
use Rattle.profile.specs.declared.Rule.TheVariants.{Pixel}
use Rattle.profile.specs.Profile.{profile_number, body_length}
use Rattle.profile.specs.Layout.{is_pixel, allows, rules, gap_fits}
use Rattle.profile.specs.Layout as layout
use Rattle.half_means.specs.declared.Means.{Means}
use Rattle.half_means.specs.declared.Sums.{Sums}
use Rattle.half_means.specs.declared.Halves.{Halves}
use Rattle.half_means.specs.HalfMeans.{half_length, total, first_sum, second_sum, difference, HalfValues, values_of, given, answer_for, beside_of, require, half_values, halves_of}
use Rattle.half_means.specs.Sixtyfourths.{exact}

-- the sums stay below this, and the differences between this and its negative (02, A10)
abbrev pub sums_below : ℕ
sums_below = 16257

-- no difference is wider: 64 pixels, each at most 253 away
abbrev pub widest : ℕ
widest = 16192

-- Sums of pixels.

fits_drop : (i : ℕ) (rs : List Rule) (bs : List ℕ) → layout.fits rs bs ≡ true → layout.fits (drop i rs) (drop i bs) ≡ true
fits_drop zero rs bs h = h
fits_drop (suc i) [] [] h = h
fits_drop (suc i) [] (b ∷ bs) h = absurd (true≢false (sym h))
fits_drop (suc i) (r ∷ rs) [] h = absurd (true≢false (sym h))
fits_drop (suc i) (r ∷ rs) (b ∷ bs) h = fits_drop i rs bs (and_right (allows r b) _ h)

fits_take : (n : ℕ) (rs : List Rule) (bs : List ℕ) → layout.fits rs bs ≡ true → layout.fits (take n rs) (take n bs) ≡ true
fits_take zero rs bs h = refl
fits_take (suc n) [] [] h = h
fits_take (suc n) [] (b ∷ bs) h = absurd (true≢false (sym h))
fits_take (suc n) (r ∷ rs) [] h = absurd (true≢false (sym h))
fits_take (suc n) (r ∷ rs) (b ∷ bs) h =
    and_both (allows r b) _ (and_left (allows r b) _ h) (fits_take n rs bs (and_right (allows r b) _ h))

pixel_range : (b : ℕ) → is_pixel b ≡ true → (1 ≤ b) × (b ≤ 254)
pixel_range b h = (leb-true 1 b (and_left (leb 1 b) _ h), leb-true b 254 (and_right (leb 1 b) _ h))

-- n pixels sum to between n and 254 times n
pixels_total : (n : ℕ) (bs : List ℕ) → layout.fits (replicate n Pixel) bs ≡ true → (n ≤ total bs) × (total bs ≤ 254 * n)
pixels_total zero [] h = (lit≤ tt, lit≤ tt)
pixels_total zero (b ∷ bs) h = absurd (true≢false (sym h))
pixels_total (suc n) [] h = absurd (true≢false (sym h))
pixels_total (suc n) (b ∷ bs) h =
    let p = pixel_range b (and_left (is_pixel b) _ h) in
    let q = pixels_total n bs (and_right (is_pixel b) _ h) in
    (omega (arith, p.0, q.0), omega (arith, p.1, q.1))

-- so do n bytes from a place on whose rules are those of pixels
part_total : (n at : ℕ) (rs : List Rule) (bs : List ℕ) → take n (drop at rs) ≡ replicate n Pixel → layout.fits rs bs ≡ true
    → (n ≤ total (take n (drop at bs))) × (total (take n (drop at bs)) ≤ 254 * n)
part_total n at rs bs e h =
    pixels_total n (take n (drop at bs))
    (subst (λ (x : List Rule). layout.fits x (take n (drop at bs)) ≡ true) e (fits_take n (drop at rs) (drop at bs) (fits_drop at rs bs h)))

module _ (body : List ℕ) (h : layout.fits (rules VV5300 VL) body ≡ true) where
  pub first_range : (64 ≤ first_sum body) × (first_sum body < sums_below)
  unfolding first_sum
  first_range = let q = part_total 64 20 (rules VV5300 VL) body refl h in (q.0, omega (arith, q.1))

  pub second_range : (64 ≤ second_sum body) × (second_sum body < sums_below)
  unfolding second_sum
  second_range = let q = part_total 64 84 (rules VV5300 VL) body refl h in (q.0, omega (arith, q.1))

-- Differences.

-- no wider than the widest
abbrev pub Within : ℤ → Type 0
Within z = (negsuc (widest - 1) ≤ℤ z) × (z ≤ℤ pos widest)

within_minus : (a s : ℕ) → a ≤ s + widest → s ≤ a + widest → Within (pos a -ℤ pos s)
within_minus a zero h g = (record { le = tt }, record { le = le→leb (a + zero) widest (omega arith) })
within_minus a (suc s) h g = go (ltb a (suc s)) (ltb→lt a (suc s)) (nltb→le a (suc s))
  where
    go : (t : Bool) → (T t → a < suc s) → (T (not t) → suc s ≤ a) → Within (cond t (negsuc (suc s - suc a)) (pos (a - suc s)))
    go true k l = (record { le = le→leb (suc s - suc a) (widest - 1) (omega arith) }, record { le = tt })
    go false k l = (record { le = tt }, record { le = le→leb (a - suc s) widest (omega arith) })

difference_within : (byte sum : ℕ) → is_pixel byte ≡ true → (64 ≤ sum) × (sum < sums_below) → Within (difference byte sum)
unfolding difference
difference_within byte sum h r =
    let p = pixel_range byte h in
    within_minus (64 * byte) sum (omega (arith, p.1, r.0)) (omega (arith, p.0, r.1))

-- The answer.

-- with all tests passed
pub passed : (profile kind : ℕ) (body : List ℕ) (a b : ℕ) → profile ≡ profile_number VV5300 → kind ≡ kind_number VL → length body ≡ body_length VV5300
    → layout.fits (rules VV5300 VL) body ≡ true → gap_fits VV5300 VL a b ≡ true
    → half_values profile kind body a b ≡ beside_of (first_sum body) (second_sum body) a b
unfolding half_values require
passed profile kind body a b p k l f g = simp (eq-eqb _ _ p, eq-eqb _ _ k, eq-eqb _ _ l, f, g)

-- the values tell the program's answer
pub values_tell : (r : Result Halves Refusal) (v : HalfValues) → values_of r ≡ v → r ≡ answer_for v
values_tell r v h = back r ∙ ap answer_for h
  where
    back : (r : Result Halves Refusal) → r ≡ answer_for (values_of r)
    back (Ok h) = refl
    back (Err r) = refl

-- what is given of a body, beside the sensor's means
pub record GivenOf (body : List ℕ) (a b : ℕ) (m : Means) (s : Sums) (d e : ℤ) : Type 0 where
  -- each mean is finite, not negative, and exactly the sum divided by 64
  pub first_exact : HasValue m.first false (first_sum body) half_length
  pub second_exact : HasValue m.second false (second_sum body) half_length
  pub sums : s ≡ record { first = first_sum body; second = second_sum body }
  pub first_below : first_sum body < sums_below
  pub second_below : second_sum body < sums_below
  pub first_difference : d ≡ difference a (first_sum body)
  pub second_difference : e ≡ difference b (second_sum body)
  pub first_within : Within d
  pub second_within : Within e

abbrev is_given : Result Halves Refusal → Bool
is_given (Ok h) = true
is_given (Err r) = false

abbrev means_or : Means → Result Halves Refusal → Means
means_or m (Ok h) = h.means
means_or m (Err r) = m

abbrev sums_or : Sums → Result Halves Refusal → Sums
sums_or s (Ok h) = h.sums
sums_or s (Err r) = s

abbrev first_or : ℤ → Result Halves Refusal → ℤ
first_or z (Ok h) = h.first_difference
first_or z (Err r) = z

abbrev second_or : ℤ → Result Halves Refusal → ℤ
second_or z (Ok h) = h.second_difference
second_or z (Err r) = z

module _ (m : Means) (s : Sums) (d e : ℤ) where
  required : (t : Bool) (n : ℕ) (x : HalfValues) → answer_for (require t n x) ≡ given m s d e → (t ≡ true) × (answer_for x ≡ given m s d e)
  unfolding require
  required true n x h = (refl, h)
  required false n x h = absurd (true≢false (sym (ap is_given h)))

  beside_given : (body : List ℕ) (a b : ℕ) → layout.fits (rules VV5300 VL) body ≡ true → gap_fits VV5300 VL a b ≡ true
      → answer_for (beside_of (first_sum body) (second_sum body) a b) ≡ given m s d e → GivenOf body a b m s d e
  unfolding beside_of
  beside_given body a b f g h =
      let p = first_range body f in
      let q = second_range body f in
      let i = ap (means_or m) h in
      record {
        first_exact = subst (λ (x : Means). HasValue x.first false (first_sum body) 64) i (exact (first_sum body) (lt_of_lt_of_le p.1 (lit≤ tt)));
        second_exact = subst (λ (x : Means). HasValue x.second false (second_sum body) 64) i (exact (second_sum body) (lt_of_lt_of_le q.1 (lit≤ tt)));
        sums = sym (ap (sums_or s) h);
        first_below = p.1;
        second_below = q.1;
        first_difference = sym (ap (first_or d) h);
        second_difference = sym (ap (second_or e) h);
        first_within = subst Within (ap (first_or d) h) (difference_within a (first_sum body) (and_left (is_pixel a) _ g) p);
        second_within = subst Within (ap (second_or e) h) (difference_within b (second_sum body) (and_right (is_pixel a) _ g) q);
      }

-- whatever is given is exact
pub given_exact : (profile kind : ℕ) (body : List ℕ) (a b : ℕ) (m : Means) (s : Sums) (d e : ℤ)
    → halves_of profile kind body a b ≡ given m s d e → GivenOf body a b m s d e
unfolding halves_of half_values
given_exact profile kind body a b m s d e h =
    let f : Bool = layout.fits (rules VV5300 VL) body in
    let x = required m s d e _ _ _ (required m s d e _ _ _ (required m s d e _ _ _ (required m s d e _ _ _ h).1).1).1 in
    beside_given m s d e body a b (and_left f _ x.0) (and_right f _ x.0) x.1
