-- The bytes of two bodies, a place after another, as a `for` over both meets them.
use Rattle.std.specs.Prelude.{◌≡◌, refl, Bool, true, false, not, cond, List, [], ◌∷◌, ◌++◌, filter, ℕ, suc, ◌+◌, ◌≤◌, ◌<◌, eqb, length, get_or, drop}
use Rattle.std.specs.List.{enumerate_from, zip}
use Rattle.std.proofs.Common.{ap, ◌∙◌, arith, zero-add}
use Rattle.std.proofs.lemmas.List.{get_or_default}
use Rattle.std.proofs.lemmas.List.FromFn.{length-enumerate_from, get_or-enumerate_from}
use Rattle.std.proofs.lemmas.Slice.Zip.{length-zip, get_or-zip}
use Rattle.diff_records.specs.Difference.{both_bytes, unless, places_from, encoded_all}
use Rattle.diff_records.specs.Next.{different}
use Rattle.diff_records.proofs.DifferenceLaws.{places_step}

-- a place of two bodies, and both bytes
pub record PairAt (xs ys : List ℕ) (i p x y : ℕ) : Type 0 where
  pub place : p ≡ i
  pub in_first : i < length xs
  pub in_second : i < length ys
  pub first : x ≡ get_or xs i 0
  pub second : y ≡ get_or ys i 0

pub pair_at : (xs ys : List ℕ) (i p x y : ℕ) → i < length (enumerate_from 0 (zip xs ys)) → (p, (x, y)) ≡ get_or (enumerate_from 0 (zip xs ys)) i (p, (x, y)) → PairAt xs ys i p x y
pair_at xs ys i p x y h e =
    let n = length-enumerate_from 0 (zip xs ys) in
    let m = length-zip xs ys in
    let f : i < length xs = omega arith in
    let g : i < length ys = omega arith in
    let pair : ◌≡◌ {A = ℕ × (ℕ × ℕ)} (p, (x, y)) (0 + i, (get_or xs i x, get_or ys i y)) =
    e ∙ get_or-enumerate_from 0 (zip xs ys) i _ (omega arith) ∙ ap (λ (q : ℕ × ℕ). (0 + i, q)) (get_or-zip xs ys i (x, y) f g) in
    record {
      place = ap (λ (q : ℕ × (ℕ × ℕ)). q.0) pair ∙ zero-add i;
      in_first = f;
      in_second = g;
      first = ap (λ (q : ℕ × (ℕ × ℕ)). q.1.0) pair ∙ get_or_default xs i x 0 f;
      second = ap (λ (q : ℕ × (ℕ × ℕ)). q.1.1) pair ∙ get_or_default ys i y 0 g;
    }

-- the places from one on, by the bytes there
pub places_pair : {xs ys : List ℕ} {i p x y : ℕ} → PairAt xs ys i p x y → (n : ℕ) → encoded_all (places_from n i (drop i xs) (drop i ys))
    ≡ encoded_all (unless (eqb x y) (both_bytes n p x y) []) ++ encoded_all (places_from n (i + 1) (drop (i + 1) xs) (drop (i + 1) ys))
places_pair {xs} {ys} {i} q n = simp (q.place, q.first, q.second) (places_step xs ys i q.in_first q.in_second n)

-- two bytes that differ
abbrev pub differ : ℕ × ℕ → Bool
differ q = not (eqb q.0 q.1)

pub different_pairs : (xs ys : List ℕ) → length (filter differ (zip xs ys)) ≡ different xs ys
different_pairs [] ys = refl
different_pairs (x ∷ xs) [] = refl
different_pairs (x ∷ xs) (y ∷ ys) = by (eqb x y) (different_pairs xs ys)
  where
    by : (t : Bool) → length (filter differ (zip xs ys)) ≡ different xs ys
        → length (cond (not t) ((x, y) ∷ filter differ (zip xs ys)) (filter differ (zip xs ys))) ≡ cond t 0 1 + different xs ys
    by true r = omega arith
    by false r = omega arith

pub different_most : (xs ys : List ℕ) → different xs ys ≤ length xs
different_most [] ys = omega arith
different_most (x ∷ xs) [] = omega arith
different_most (x ∷ xs) (y ∷ ys) = by (eqb x y) (different_most xs ys)
  where
    by : (t : Bool) → different xs ys ≤ length xs → cond t 0 1 + different xs ys ≤ suc (length xs)
    by true r = omega arith
    by false r = omega arith
