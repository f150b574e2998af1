-- The differences of some bytes, one after another: the one they start with, then those of what is left.
use Rattle.std.specs.Prelude.{◌≡◌, refl, Bool, true, false, cond, List, [], ◌∷◌, ℕ, zero, suc, ◌≤◌, ◌<◌, eqb, length, get_or, drop}
use Rattle.std.proofs.Common.{sym, ap, arith, length-drop}
use Rattle.diff_records.specs.Difference.{Difference}
use Rattle.diff_records.specs.ReadBack.{front_of, front_size, first_differences, differences_in}

none_first : (n : ℕ) → first_differences n [] ≡ []
none_first zero = refl
none_first (suc n) = refl

pub size_some : (bs : List ℕ) → 0 < front_size bs
unfolding front_size
size_some bs = by (eqb (get_or bs 0 0) 1) (eqb (get_or bs 0 0) 2) (eqb (get_or bs 0 0) 3)
  where
    by : (s t u : Bool) → 0 < cond s 360 (cond t 360 (cond u 5 7))
    by true t u = omega arith
    by false true u = omega arith
    by false false true = omega arith
    by false false false = omega arith

-- more turns than there are bytes change nothing
enough : (n m : ℕ) (bs : List ℕ) → length bs ≤ n → length bs ≤ m → first_differences n bs ≡ first_differences m bs
enough zero m [] h g = sym (none_first m)
enough zero m (t ∷ bs) h g = absurd (omega arith)
enough (suc n) m [] h g = sym (none_first m)
enough (suc n) zero (t ∷ bs) h g = absurd (omega arith)
enough (suc n) (suc m) (t ∷ bs) h g =
    let l : length (drop (front_size (t ∷ bs)) (t ∷ bs)) ≤ length bs = omega (arith, length-drop (front_size (t ∷ bs)) (t ∷ bs), size_some (t ∷ bs)) in
    ap (λ (ds : List Difference). front_of (t ∷ bs) ∷ ds) (enough n m (drop (front_size (t ∷ bs)) (t ∷ bs)) (omega (arith, l)) (omega (arith, l)))

-- the differences of some bytes: the one they start with, then those of what is left
pub differences_step : (bs : List ℕ) → 0 < length bs → differences_in bs ≡ front_of bs ∷ differences_in (drop (front_size bs) bs)
differences_step [] h = absurd (omega arith)
differences_step (t ∷ bs) h =
    ap (λ (ds : List Difference). front_of (t ∷ bs) ∷ ds)
    (enough (length bs) (length (drop (front_size (t ∷ bs)) (t ∷ bs))) (drop (front_size (t ∷ bs)) (t ∷ bs))
    (omega (arith, length-drop (front_size (t ∷ bs)) (t ∷ bs), size_some (t ∷ bs))) (omega arith))
