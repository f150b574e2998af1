-- The rows of a table of half-line means (02, A10): a row for each visible line.
use Rattle.std.specs.Prelude.{cond, List, [], ◌∷◌, ◌++◌, ℕ, zero, suc, ◌*◌, ◌/◌, ◌%◌, eqb, ℤ, pos, negsuc, Result, Ok, Err}
use Rattle.refusal.specs.declared.Refusal.{Refusal}
use Rattle.refusal.specs.Refusal.{bad_gap}
use Rattle.text.specs.Text.{ascii, space, newline, digit, decimal}
use Rattle.half_means.specs.declared.Sums.{Sums}
use Rattle.half_means.specs.declared.Halves.{Halves}
use Rattle.half_means.specs.HalfMeans.{half_length, difference}

-- Numbers.

-- the last k decimal digits of a number
abbrev pub places : ℕ → ℕ → List ℕ
places zero n = []
places (suc k) n = places k (n / 10) ++ (digit (n % 10) ∷ [])

-- a number with its sign
abbrev pub minus_sign : ℕ
minus_sign = 0x2D

-- a whole number with its sign
abbrev pub signed : ℤ → List ℕ
signed (pos n) = decimal n
signed (negsuc n) = minus_sign ∷ decimal (suc n)

-- the millionths of a 64th
abbrev pub millionths : ℕ
millionths = 15625

-- the decimal point
abbrev pub point : ℕ
point = 0x2E

-- a sum divided by 64: the whole part, and the fraction in six digits, which are all that it has (`text-exact`, in the laws)
abbrev pub whole_part : ℕ → List ℕ
whole_part sum = decimal (sum / half_length)

-- the six places of a sum over 64
abbrev pub fraction : ℕ → List ℕ
fraction sum = places 6 (sum % half_length * millionths)

-- a mean in decimal, exactly
unfoldable pub mean_text : ℕ → List ℕ
mean_text sum = whole_part sum ++ (point ∷ fraction sum)

-- Rows.

-- the names of the columns
abbrev pub means_header : List ℕ
means_header = ascii "line sensor1 sensor2 mean1 mean2 difference1 difference2\n"

-- the line's number and the sensor's means
unfoldable pub start_words : ℕ → ℕ → ℕ → List ℕ
start_words number a b = decimal number ++ (space ∷ (decimal a ++ (space ∷ (decimal b ++ (space ∷ [])))))

-- the exact means
unfoldable pub means_words : Sums → List ℕ
means_words s = mean_text s.first ++ (space ∷ (mean_text s.second ++ (space ∷ [])))

-- the differences
unfoldable pub differences_words : ℕ → ℕ → Sums → List ℕ
differences_words a b s = signed (difference a s.first) ++ (space ∷ (signed (difference b s.second) ++ (newline ∷ [])))

-- the row of a line whose means are given
unfoldable pub given_row : ℕ → ℕ → ℕ → Sums → List ℕ
given_row number a b s = start_words number a b ++ (means_words s ++ differences_words a b s)

-- the words of a gap's refusal
unfoldable pub gap_refusal_words : ℕ → List ℕ
gap_refusal_words n = cond (eqb n bad_gap) (ascii ", bad gap") []

-- the row of a line whose gap is refused
unfoldable pub refused_row : ℕ → ℕ → List ℕ
refused_row number n = decimal number ++ (ascii " refused: " ++ (decimal n ++ (gap_refusal_words n ++ (newline ∷ []))))

-- the row of a visible line, with the sensor's means and what is said of its halves
unfoldable pub means_row : ℕ → ℕ → ℕ → Result Halves Refusal → List ℕ
means_row number a b (Ok h) = given_row number a b h.sums
means_row number a b (Err r) = refused_row number r.0

-- the bytes that no row exceeds
abbrev pub means_room : ℕ
means_room = 192
