-- How far two bytes are apart, and the greater of two, as the library says them.
use Rattle.std.specs.Prelude.{◌≡◌, Bool, true, false, cond, ℕ, ◌-◌, ltb}
use Rattle.std.specs.Int.{abs_diff}
use Rattle.std.proofs.Common.{refl, max, arith}
use Rattle.std.proofs.lemmas.Bool.{ltb-true, ltb-false}
use Rattle.diff_summary.specs.Summary.{absolute_difference, greater_of}

pub abs_diff_is : (x y : ℕ) → abs_diff x y ≡ absolute_difference x y
unfolding absolute_difference
abs_diff_is x y = by (ltb x y) refl
  where
    by : (t : Bool) → ltb x y ≡ t → abs_diff x y ≡ cond t (y - x) (x - y)
    by true e = omega (arith, ltb-true x y e)
    by false e = omega (arith, ltb-false x y e)

pub max_is : (x y : ℕ) → max x y ≡ greater_of x y
unfolding greater_of
max_is x y = by (ltb x y) refl
  where
    by : (t : Bool) → ltb x y ≡ t → max x y ≡ cond t y x
    by true e = omega (arith, ltb-true x y e)
    by false e = omega (arith, ltb-false x y e)
