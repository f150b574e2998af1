-- The differences between two lists of lines as rows of text (02, A13), whole and a number after another.
use Rattle.std.specs.Prelude.{◌≡◌, cond, List, [], ◌∷◌, ◌++◌, ℕ, zero, suc, ◌+◌, ◌≤◌, eqb, length, drop}
use Rattle.text.specs.Put.{Puts}
use Rattle.line_records.specs.Lines.{full_lines}
use Rattle.diff_records.specs.Difference.{Difference, differences}
use Rattle.diff_records.specs.Next.{next_number, next_differences, how_far}
use Rattle.diff_change.specs.Front.{change_of}
use Rattle.diff_change_row.specs.ChangeRow.{change_row}
use Rattle.diff_rows.specs.declared.Piece.{Piece}

-- a row for each difference
abbrev pub rows_text : List Difference → List ℕ
rows_text [] = []
rows_text (d ∷ ds) = change_row (change_of d) ++ rows_text ds

-- all rows of two lists as they are lent
abbrev pub all_rows : List ℕ → List ℕ → List ℕ
all_rows first second = rows_text (differences (full_lines first) (full_lines second))

-- A number after another.

-- how far one list is passed, beside another
abbrev pub passed : List ℕ → List ℕ → ℕ
passed own other = how_far (next_number own) (next_number other)

-- the rows of the next number at a buffer's front, where they end, and how far each list is passed
pub record RowsPut (a b before : List ℕ) (answer : Piece) (after : List ℕ) : Type 0 where
  pub rows : Puts before 0 (rows_text (next_differences a b)) answer.end after
  pub first_passed : answer.first ≡ passed a b
  pub second_passed : answer.second ≡ passed b a
  pub first_inside : answer.first ≤ length a
  pub second_inside : answer.second ≤ length b

-- the rows of at most so many numbers, up to where neither list is passed
abbrev pub pieces : ℕ → List ℕ → List ℕ → List (List ℕ)
pieces zero a b = []
pieces (suc turns) a b =
    cond (eqb (passed a b + passed b a) 0) [] (rows_text (next_differences a b) ∷ pieces turns (drop (passed a b) a) (drop (passed b a) b))

-- rows one straight after another
abbrev pub rows_end_to_end : List (List ℕ) → List ℕ
rows_end_to_end [] = []
rows_end_to_end (p ∷ ps) = p ++ rows_end_to_end ps
