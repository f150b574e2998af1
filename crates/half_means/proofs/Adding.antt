-- A half is added up byte by byte.
use mathlib.Core.Path.{◌≡◌, ap, ◌∙◌}
use mathlib.Core.List.{List}
use Prim.Native.Nat.{ℕ, ◌+◌, ◌-◌, ◌<◌, ◌≤◌}
use native.Mathlib.Omega.{arith}
use native.Mathlib.Numerals.{add-one}
use lib.ListN.{length, take, drop, get_or, drop_of_length-le}
use lib.Seq.{drop-cons}
use Rattle.profile.specs.declared.Profile.TheVariants.{VV5300}
use Rattle.profile.specs.Profile.{image_start}
use Rattle.half_means.specs.HalfMeans.{total, half_at}

module _ (bytes : List ℕ) (i : ℕ) where
  pub total_step : i < length bytes → total (drop i bytes) ≡ get_or bytes i 0 + total (drop (i + 1) bytes)
  total_step h = rw (add-one, drop-cons bytes i 0)

  pub total_end : length bytes ≤ i → total (drop i bytes) ≡ 0
  total_end h = rw (drop_of_length-le bytes)

  -- the part that the code lends, from the place where the image starts
  pub part_is : (start : ℕ) → start ≡ image_start VV5300 → total (take (start + i + 64 - (start + i)) (drop (start + i) bytes)) ≡ total (half_at i bytes)
  part_is start e =
      let l : start + i + 64 - (start + i) ≡ 64 = omega arith in
      ap (λ (n : ℕ). total (take n (drop (start + i) bytes))) l ∙ ap (λ (s : ℕ). total (take 64 (drop (s + i) bytes))) e
