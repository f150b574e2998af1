-- Differences read back from their bytes (02, A13).
use Rattle.std.specs.Prelude.{cond, List, [], ◌∷◌, ℕ, zero, suc, eqb, length, get_or, take, drop}
use Rattle.profile.specs.Profile.{width}
use Rattle.line_records.specs.Lines.{FullLine, from_two}
use Rattle.diff_records.specs.Difference.{Difference, only_first, only_second, both_kinds, both_bytes}

-- The difference that some bytes start with: what is missing at their end counts as 0.

-- the number in two bytes at two places
abbrev pub two_at : List ℕ → ℕ → ℕ → ℕ
two_at bs i j = from_two (get_or bs i 0) (get_or bs j 0)

-- the line that is given whole
abbrev pub given_line : List ℕ → FullLine
given_line bs = record { kind = get_or bs 3 0; number = two_at bs 1 2; body = take width (drop 4 bs) }

-- by its first byte
unfoldable pub front_of : List ℕ → Difference
front_of bs =
    cond (eqb (get_or bs 0 0) 1) (only_first (given_line bs))
    (cond (eqb (get_or bs 0 0) 2) (only_second (given_line bs))
    (cond (eqb (get_or bs 0 0) 3) (both_kinds (two_at bs 1 2) (get_or bs 3 0) (get_or bs 4 0)) (both_bytes (two_at bs 1 2) (two_at bs 3 4) (get_or bs 5 0) (get_or bs 6 0))))

-- how many bytes it has
unfoldable pub front_size : List ℕ → ℕ
front_size bs = cond (eqb (get_or bs 0 0) 1) 360 (cond (eqb (get_or bs 0 0) 2) 360 (cond (eqb (get_or bs 0 0) 3) 5 7))

-- All of them.

-- the differences of some bytes, one after another, at most n of them
abbrev pub first_differences : ℕ → List ℕ → List Difference
first_differences zero bs = []
first_differences (suc n) [] = []
first_differences (suc n) (tag ∷ bs) = front_of (tag ∷ bs) ∷ first_differences n (drop (front_size (tag ∷ bs)) (tag ∷ bs))

-- the differences that some bytes tell
abbrev pub differences_in : List ℕ → List Difference
differences_in bs = first_differences (length bs) bs
