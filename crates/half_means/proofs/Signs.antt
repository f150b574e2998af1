-- The difference of two small numbers, as the machine computes it in an i32.
use mathlib.Core.Path.{◌≡◌, sym, ap, subst, ◌∙◌}
use mathlib.Core.Bool.{Bool, true, false, cond}
use Prim.Native.Nat.{ℕ, zero, suc, ◌+◌, ◌-◌, ◌*◌, ◌≤◌, ◌<◌, ◌^◌}
use native.Mathlib.Nat.{le_refl}
use native.Mathlib.Omega.{arith}
use lib.Dec.{ltb}
use lib.IntN.{ℤ, pos, negsuc, ◌-ℤ◌}
use lib.Signed.{mag}
use mir.Syntax.{w32}
use mir.Val.{SFits, to_z, of_z}
use mir.ValLaws.{to_z_pos, to_z-of_z}
use Rattle.half_means.specs.HalfMeans.{difference}

mag_minus : (a b : ℕ) → mag (pos a -ℤ pos b) ≤ a + b
mag_minus a zero = le_refl (a + zero)
mag_minus a (suc b) = go (ltb a (suc b))
  where
    go : (t : Bool) → mag (cond t (negsuc (suc b - suc a)) (pos (a - suc b))) ≤ a + suc b
    go true = omega arith
    go false = omega arith

module _ (a b : ℕ) (h : a < 2 ^ 30) (g : b < 2 ^ 30) where
  as_is : to_z w32 a -ℤ to_z w32 b ≡ pos a -ℤ pos b
  as_is = ap (λ (z : ℤ). z -ℤ to_z w32 b) (to_z_pos w32 a (omega arith)) ∙ ap (λ (z : ℤ). pos a -ℤ z) (to_z_pos w32 b (omega arith))

  small : SFits w32 (pos a -ℤ pos b)
  small = record { sfits = omega (arith, mag_minus a b) }

  pub minus_fits : SFits w32 (to_z w32 a -ℤ to_z w32 b)
  minus_fits = subst (SFits w32) (sym as_is) small

  pub minus_is : to_z w32 (of_z w32 (to_z w32 a -ℤ to_z w32 b)) ≡ pos a -ℤ pos b
  minus_is = ap (λ (z : ℤ). to_z w32 (of_z w32 z)) as_is ∙ to_z-of_z w32 (pos a -ℤ pos b) small

-- a difference that is put into an answer is read back from its bits
pub kept : (z : ℤ) (byte sum : ℕ) → byte < 256 → sum < 2 ^ 16 → z ≡ difference byte sum → to_z w32 (of_z w32 z) ≡ difference byte sum
unfolding difference
kept z byte sum h g e = ap (λ (y : ℤ). to_z w32 (of_z w32 y)) e ∙ to_z-of_z w32 (pos (64 * byte) -ℤ pos sum) (small (64 * byte) sum (omega arith) (omega arith))
