-- The words of a summary of differences.
use Rattle.std.specs.Prelude.{cond, List, [], ◌++◌, ℕ, eqb}
use Rattle.text.specs.Text.{ascii, decimal}
use Rattle.diff_summary.specs.declared.Summary.{Summary}

-- a count behind its words
unfoldable pub count_text : List ℕ → ℕ → List ℕ
count_text words n = words ++ (decimal n ++ ascii "\n")

-- where the pixels are, and by how much they differ, where there are any
unfoldable pub places_text : Summary → List ℕ
places_text s =
    cond (eqb s.pixels 0) []
    (count_text (ascii "lines they are in: ") s.lines
    ++ (count_text (ascii "first of these lines: ") s.least
    ++ (count_text (ascii "last of these lines: ") s.last ++ count_text (ascii "greatest difference: ") s.most)))

-- the summary, a line for each count
unfoldable pub summary_text : Summary → List ℕ
summary_text s =
    count_text (ascii "lines only in the first capture: ") s.first
    ++ (count_text (ascii "lines only in the second capture: ") s.second
    ++ (count_text (ascii "lines of two kinds (5 where only one capture has borders): ") s.kinds ++ (count_text (ascii "pixels that differ: ") s.pixels ++ places_text s)))
