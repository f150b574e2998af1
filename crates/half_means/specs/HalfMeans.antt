-- Exact half-line means (02, A10): the sums of two parts of a line's image, each divided by 64, beside the sensor's own means.
use Rattle.std.specs.Prelude.{Bool, true, false, ◌&&◌, List, [], ◌∷◌, ℕ, ◌+◌, ◌*◌, eqb, ℤ, pos, ◌-ℤ◌, Float, length, take, drop, Result, Ok, Err}
use Rattle.std.specs.Float.Ieee.{round}
use Rattle.std.specs.Float.{binary64}
use Rattle.refusal.specs.declared.Refusal.{Refusal}
use Rattle.refusal.specs.Refusal.{bad_state, wrong_body_length, byte_not_allowed, not_visible}
use Rattle.line_code.specs.declared.Kind.TheVariants.{VL}
use Rattle.line_code.specs.LineCode.{kind_number}
use Rattle.profile.specs.declared.Profile.TheVariants.{VV5300}
use Rattle.profile.specs.Profile.{profile_number, body_length, image_start}
use Rattle.profile.specs.Layout.{rules, fits, gap_fits}
use Rattle.half_means.specs.declared.Means.{Means}
use Rattle.half_means.specs.declared.Sums.{Sums}
use Rattle.half_means.specs.declared.Halves.{Halves}

-- the image places where the halves start, and the pixels of each
abbrev pub first_place : ℕ
first_place = 16

-- the image place where the second half begins
abbrev pub second_place : ℕ
second_place = 80

-- how many pixels a half has
abbrev pub half_length : ℕ
half_length = 64

-- the sum of bytes
abbrev pub total : List ℕ → ℕ
total [] = 0
total (b ∷ bs) = b + total bs

-- the half of a body that starts at an image place
abbrev pub half_at : ℕ → List ℕ → List ℕ
half_at place body = take half_length (drop (image_start VV5300 + place) body)

-- image places 16 to 79, and 80 to 143: their sums
unfoldable pub first_sum : List ℕ → ℕ
first_sum body = total (half_at first_place body)

-- the sum of the second half's pixels
unfoldable pub second_sum : List ℕ → ℕ
second_sum body = total (half_at second_place body)

-- n / 64, rounded to an f64 (`exact`, in the laws: nothing is lost where n is below 2 ^ 53)
unfoldable pub sixty_fourth : ℕ → Float
sixty_fourth n = round binary64 false n half_length

-- 64 times the sensor's byte, minus the sum
unfoldable pub difference : ℕ → ℕ → ℤ
difference byte sum = pos (half_length * byte) -ℤ pos sum

-- what a call says: the exact mean of each half, its sum, and the signed difference beside it; or a refusal with its number
pub data HalfValues : Type 0 where
  means : Float → Float → ℕ → ℕ → ℤ → ℤ → HalfValues
  refused : ℕ → HalfValues

-- the paper's number and values of each case of the program's answer
abbrev pub values_of : Result Halves Refusal → HalfValues
values_of (Ok h) = means h.means.first h.means.second h.sums.first h.sums.second h.first_difference h.second_difference
values_of (Err r) = refused r.0

-- the program's answer that gives these
abbrev pub given : Means → Sums → ℤ → ℤ → Result Halves Refusal
given m s d e = Ok (record { means = m; sums = s; first_difference = d; second_difference = e })

-- the program's answer that says this
abbrev pub answer_for : HalfValues → Result Halves Refusal
answer_for (means x y s t d e) = given (record { first = x; second = y }) (record { first = s; second = t }) d e
answer_for (refused n) = Err (record { 0 = n })

-- what is said of two sums beside the sensor's two bytes
unfoldable pub beside_of : ℕ → ℕ → ℕ → ℕ → HalfValues
beside_of s t a b = means (sixty_fourth s) (sixty_fourth t) s t (difference a s) (difference b t)

-- the values, if a test passes; else a refusal
unfoldable pub require : Bool → ℕ → HalfValues → HalfValues
require true n v = v
require false n v = refused n

-- what a call says: of a profile and a kind by their numbers, a body and the sensor's two means
unfoldable pub half_values : ℕ → ℕ → List ℕ → ℕ → ℕ → HalfValues
half_values profile kind body a b =
    require (eqb profile (profile_number VV5300)) bad_state
    (require (eqb kind (kind_number VL)) not_visible
    (require (eqb (length body) (body_length VV5300)) wrong_body_length
    (require (fits (rules VV5300 VL) body && gap_fits VV5300 VL a b) byte_not_allowed (beside_of (first_sum body) (second_sum body) a b))))

-- the program's answer
unfoldable pub halves_of : ℕ → ℕ → List ℕ → ℕ → ℕ → Result Halves Refusal
halves_of profile kind body a b = answer_for (half_values profile kind body a b)
