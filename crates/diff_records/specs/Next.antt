-- One step of the walk of two lists by their numbers: the least number that either starts with, its differences, and how far it reaches.
use Rattle.std.specs.Prelude.{◌&&◌, cond, List, [], ◌∷◌, ℕ, ◌+◌, eqb, leb, ltb, length}
use Rattle.line_records.specs.Lines.{FullLine, line_size, no_line, front_line}
use Rattle.diff_records.specs.Difference.{Difference, only_first, only_second, between_lines}

-- the number that a list starts with, or more than any
unfoldable pub next_number : List ℕ → ℕ
next_number list = cond (leb line_size (length list)) (front_line list).number no_line

-- the differences of the least of two numbers, of the lines that two lists start with
unfoldable pub of_least : ℕ → ℕ → FullLine → FullLine → List Difference
of_least n m a b = cond (ltb n m) (only_first a ∷ []) (cond (ltb m n) (only_second b ∷ []) (cond (ltb n no_line) (between_lines a b) []))

-- the differences of the least number that stands at the front of either list
abbrev pub next_differences : List ℕ → List ℕ → List Difference
next_differences x y = of_least (next_number x) (next_number y) (front_line x) (front_line y)

-- how far a list is passed: by a line, where its number is the least
unfoldable pub how_far : ℕ → ℕ → ℕ
how_far own other = cond (leb own other && ltb own no_line) line_size 0

-- 1 where two bytes differ
abbrev pub unequal : ℕ → ℕ → ℕ
unequal x y = cond (eqb x y) 0 1

-- how many places of two bodies differ
abbrev pub different : List ℕ → List ℕ → ℕ
different [] ys = 0
different (x ∷ xs) [] = 0
different (x ∷ xs) (y ∷ ys) = unequal x y + different xs ys
