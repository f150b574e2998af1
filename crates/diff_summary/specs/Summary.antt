-- A summary of differences: how many of each sort, in how many lines, and by how much at most.
use Rattle.std.specs.Prelude.{cond, List, [], ◌∷◌, ℕ, ◌-◌, eqb, ltb}
use Rattle.counts.specs.Counts.{one_more}
use Rattle.diff_records.specs.Difference.{Difference}
use Rattle.diff_change.specs.declared.Change.{Change}
use Rattle.diff_change.specs.declared.Change.TheVariants.{First, Second, Kinds, Bytes}
use Rattle.diff_summary.specs.declared.Summary.{Summary}
use Rattle.diff_change.specs.Front.{change_of}

-- how far two bytes are apart
unfoldable pub absolute_difference : ℕ → ℕ → ℕ
absolute_difference x y = cond (ltb x y) (y - x) (x - y)

-- the greater of two numbers
unfoldable pub greater_of : ℕ → ℕ → ℕ
greater_of x y = cond (ltb x y) y x

-- nothing differs
abbrev pub fresh : Summary
fresh = record { first = 0; second = 0; kinds = 0; pixels = 0; lines = 0; least = 0; last = 0; most = 0 }

-- a summary with these counts of lines
abbrev pub with_counts : Summary → ℕ → ℕ → ℕ → Summary
with_counts s first second kinds =
    record {
      first = first;
      second = second;
      kinds = kinds;
      pixels = s.pixels;
      lines = s.lines;
      least = s.least;
      last = s.last;
      most = s.most;
    }

-- the lines with pixels that differ, with one pixel more of the line with a number: the pixels of a line come one after another
unfoldable pub lines_with : Summary → ℕ → ℕ
lines_with s n = cond (eqb s.pixels 0) 1 (cond (eqb n s.last) s.lines (one_more s.lines))

-- the first of these lines
unfoldable pub least_with : Summary → ℕ → ℕ
least_with s n = cond (eqb s.pixels 0) n s.least

-- a summary with one more pixel of a line, which differs by so much
abbrev pub with_pixel : Summary → ℕ → ℕ → Summary
with_pixel s n by =
    record {
      first = s.first;
      second = s.second;
      kinds = s.kinds;
      pixels = one_more s.pixels;
      lines = lines_with s n;
      least = least_with s n;
      last = n;
      most = greater_of s.most by;
    }

-- with one difference more
abbrev pub with_change : Summary → Change → Summary
with_change s (First n) = with_counts s (one_more s.first) s.second s.kinds
with_change s (Second n) = with_counts s s.first (one_more s.second) s.kinds
with_change s (Kinds n k m) = with_counts s s.first s.second (one_more s.kinds)
with_change s (Bytes n p x y) = with_pixel s n (absolute_difference x y)

-- with all of these
abbrev pub with_differences : Summary → List Difference → Summary
with_differences s [] = s
with_differences s (d ∷ ds) = with_differences (with_change s (change_of d)) ds

-- the summary of differences
abbrev pub summary_of : List Difference → Summary
summary_of = with_differences fresh
