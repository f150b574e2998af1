-- What differs between two lists of lines (02, A13), and the bytes that say so.
use Rattle.std.specs.Prelude.{Bool, true, false, cond, List, [], ◌∷◌, ◌++◌, map, ℕ, suc, eqb, ltb}
use Rattle.line_records.specs.Lines.{FullLine, in_two}

-- one difference of two lists
pub data Difference : Type 0 where
  -- a line whose number the first list only holds, or the second
  only_first : FullLine → Difference
  only_second : FullLine → Difference
  -- of a number: the kind in the first list and in the second
  both_kinds : ℕ → ℕ → ℕ → Difference
  -- of a number: a place of the body, from 0, and the byte there in the first list and in the second
  both_bytes : ℕ → ℕ → ℕ → ℕ → Difference

-- a difference before others, where two values are not the same
abbrev pub unless : Bool → Difference → List Difference → List Difference
unless true d ds = ds
unless false d ds = d ∷ ds

-- where two bodies differ, of the line numbered n and from place p on
abbrev pub places_from : ℕ → ℕ → List ℕ → List ℕ → List Difference
places_from n p [] ys = []
places_from n p (x ∷ xs) [] = []
places_from n p (x ∷ xs) (y ∷ ys) = unless (eqb x y) (both_bytes n p x y) (places_from n (suc p) xs ys)

-- what differs between two lines of one number: the kind, then places
unfoldable pub between_lines : FullLine → FullLine → List Difference
between_lines a b =
    unless (eqb a.kind b.kind) (both_kinds a.number a.kind b.kind) (places_from a.number 0 a.body b.body)

-- what differs between a list that starts with a line and another list; `onward` is what differs from the rest of the first
abbrev pub starting_with : FullLine → (List FullLine → List Difference) → List FullLine → List Difference
starting_with a onward [] = only_first a ∷ onward []
starting_with a onward (b ∷ ms) =
    cond (ltb a.number b.number) (only_first a ∷ onward (b ∷ ms))
    (cond (ltb b.number a.number) (only_second b ∷ starting_with a onward ms) (between_lines a b ++ onward ms))

-- what differs between two lists whose numbers rise
abbrev pub differences : List FullLine → List FullLine → List Difference
differences [] ms = map only_second ms
differences (a ∷ ls) ms = starting_with a (differences ls) ms

-- The bytes.

-- a line whole: its number, kind and body
abbrev pub whole_line : FullLine → List ℕ
whole_line l = in_two l.number ++ (l.kind ∷ l.body)

-- a difference as bytes: its kind, then its values
unfoldable pub encoded : Difference → List ℕ
encoded (only_first l) = 1 ∷ whole_line l
encoded (only_second l) = 2 ∷ whole_line l
encoded (both_kinds n k m) = 3 ∷ (in_two n ++ (k ∷ m ∷ []))
encoded (both_bytes n p x y) = 4 ∷ (in_two n ++ (in_two p ++ (x ∷ y ∷ [])))

-- differences as bytes, one straight after another
abbrev pub encoded_all : List Difference → List ℕ
encoded_all [] = []
encoded_all (d ∷ ds) = encoded d ++ encoded_all ds
