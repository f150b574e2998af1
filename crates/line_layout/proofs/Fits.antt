-- A body is judged byte by byte.
use mathlib.Core.Path.{◌≡◌, refl}
use mathlib.Core.Bool.{Bool, true, false, ◌&&◌}
use mathlib.Core.List.{List}
use Prim.Native.Nat.{ℕ, ◌+◌, ◌<◌, ◌≤◌}
use native.Mathlib.Omega.{arith}
use native.Mathlib.Numerals.{add-one}
use lib.ListN.{length, drop, get_or, drop_of_length-le}
use lib.Seq.{drop-cons}
use Rattle.profile.specs.declared.Rule.{Rule}
use Rattle.profile.specs.declared.Rule.TheVariants.{Filler}
use Rattle.profile.specs.Layout.{allows, fits}
use Rattle.profile.specs.LayoutLaws.{fits_length}

not_true_false : (b : Bool) → (b ≡ true → ⊥) → b ≡ false
not_true_false true h = absurd (h refl)
not_true_false false h = refl

module _ (rs : List Rule) (bs : List ℕ) where
  pub fits_unequal : (length bs ≡ length rs → ⊥) → fits rs bs ≡ false
  fits_unequal h = not_true_false (fits rs bs) (λ t. h (fits_length rs bs t))

  pub fits_step : (i : ℕ) → length bs ≡ length rs → i < length bs
      → fits (drop i rs) (drop i bs) ≡ (allows (get_or rs i Filler) (get_or bs i 0) && fits (drop (i + 1) rs) (drop (i + 1) bs))
  fits_step i e h =
      let g : i < length rs = omega arith in
      rw (add-one, drop-cons bs i 0, drop-cons rs i Filler)

  pub fits_end : (i : ℕ) → length bs ≡ length rs → length bs ≤ i → fits (drop i rs) (drop i bs) ≡ true
  fits_end i e h =
      let g : length rs ≤ i = omega arith in
      rw (drop_of_length-le bs, drop_of_length-le rs)
