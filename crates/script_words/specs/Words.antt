-- The words of a line.
use Rattle.std.specs.Prelude.{List, [], ℕ, eqb, unwrap_or}
use Rattle.std.specs.List.{slice_split, slice_get}

-- the words of a line: a space stands between two
abbrev pub words : List ℕ → List (List ℕ)
words line = slice_split (λ (sign : ℕ). eqb sign 32) line

-- the word with this number, the first being 0; where there is none, an empty one
abbrev pub word_at : List ℕ → ℕ → List ℕ
word_at line word = unwrap_or (slice_get (words line) word) []
