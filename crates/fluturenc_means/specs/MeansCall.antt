-- Half-line means in places that the caller lends (02, A10).
use Rattle.std.specs.Prelude.{◌≡◌, ℕ, ℤ, Float}
use Rattle.half_means.specs.HalfMeans.{HalfValues, means, refused}

-- the exact mean of each half, and the signed difference beside it
pub record MeanPlaces : Type 0 where
  pub mean1 : Float
  pub mean2 : Float
  pub beside1 : ℤ
  pub beside2 : ℤ

-- the four places of the caller's with these values
abbrev pub in_places : Float → Float → ℤ → ℤ → MeanPlaces
in_places m n a b = record { mean1 = m; mean2 = n; beside1 = a; beside2 = b }

-- 0 or the refusal
abbrev pub means_number : HalfValues → ℕ
means_number (means x y s t a b) = 0
means_number (refused n) = n

-- the places afterwards: a refused call leaves them as they were
abbrev pub places_after : HalfValues → MeanPlaces → MeanPlaces
places_after (means x y s t a b) before = in_places x y a b
places_after (refused n) before = before

-- what a call gives: its answer, and the places as it leaves them
pub record MeansGives (v : HalfValues) (answer : ℕ) (before after : MeanPlaces) : Type 0 where
  pub says : answer ≡ means_number v
  pub leaves : after ≡ places_after v before
