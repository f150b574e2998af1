-- The lines of a complete frame as a list (02, A13): each with its place in the frame for its number. Up to the EOF line that is the number sent; after
-- it the judge compares none (02, A3), and heads that hold the number still send one twice.
use Rattle.std.specs.Prelude.{◌≡◌, true, List, [], ◌∷◌, ℕ, suc}
use Rattle.line_records.specs.Lines.{FullLine, full_lines, headed_lines, none_cut, rises, numbers_small, kinds_known}
use Rattle.frame_rows.specs.FrameRows.{Shown}

-- lines numbered by their places, from one on
abbrev pub placed_from : ℕ → List Shown → List FullLine
placed_from place [] = []
placed_from place (l ∷ ls) = record { kind = l.given.kind; number = place; body = l.body } ∷ placed_from (suc place) ls

-- a frame's lines numbered by their places
abbrev pub placed_lines : List Shown → List FullLine
placed_lines = placed_from 0

-- some bytes are a list of these lines, which a comparison takes
pub record Comparable (bytes : List ℕ) (frame : List Shown) : Type 0 where
  pub lines : full_lines bytes ≡ placed_lines frame
  pub rising : rises (headed_lines bytes) ≡ true
  pub small : numbers_small (headed_lines bytes) ≡ true
  pub known : kinds_known (headed_lines bytes) ≡ true
  pub uncut : none_cut bytes ≡ true
