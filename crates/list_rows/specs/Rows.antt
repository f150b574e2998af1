-- The rows of a listing (01, 'Cases at the edges'): `mark answer number note`, then a row for each mark.
use Rattle.std.specs.Prelude.{Bool, cond, List, [], ◌∷◌, ◌++◌, ℕ, ltb}
use Rattle.text.specs.Text.{ascii, space, newline, decimal}
use Rattle.line_code.specs.declared.Kind.{Kind}
use Rattle.line_code.specs.declared.Kind.TheVariants.{BL, BK, VL, SOF, EOF}
use Rattle.stream.specs.declared.LineFacts.{LineFacts}
use Rattle.stream.specs.declared.Answer.{Answer}
use Rattle.stream.specs.declared.Answer.TheVariants.{Nothing, Line, Gap, Refused}
use Rattle.stream.specs.Answers.{either_repaired}

-- Words.

-- the first row
abbrev pub header_row : List ℕ
header_row = ascii "mark answer number note\n"

-- a line's kind
abbrev pub kind_word : Kind → List ℕ
kind_word BL = ascii "BL"
kind_word BK = ascii "BK"
kind_word VL = ascii "VL"
kind_word SOF = ascii "SOF"
kind_word EOF = ascii "EOF"

-- a line's note
abbrev pub note_word : Bool → List ℕ
note_word repaired = cond repaired (ascii "repaired") (ascii "clean")

-- a good gap
abbrev pub gap_words : List ℕ
gap_words = ascii "GAP - ok"

-- Rows.

-- what a row says of a line: kind, number, note
unfoldable pub line_words : LineFacts → List ℕ
line_words f = kind_word f.kind ++ (space ∷ (decimal f.number ++ (space ∷ note_word (either_repaired f))))

-- a refused mark
unfoldable pub refused_words : ℕ → List ℕ
refused_words n = ascii "REFUSED - " ++ decimal n

-- mark, words, newline
abbrev pub row_with : ℕ → List ℕ → List ℕ
row_with mark words = decimal mark ++ (space ∷ (words ++ (newline ∷ [])))

-- the row of a mark, counted from 1, with its answer; no row where there is no answer yet
unfoldable pub row_of : ℕ → Answer → List ℕ
row_of mark Nothing = []
row_of mark (Line f) = row_with mark (line_words f)
row_of mark (Gap g) = row_with mark gap_words
row_of mark (Refused r) = row_with mark (refused_words r.0)

-- Rows in a buffer.

-- the bytes that no row exceeds
abbrev pub row_room : ℕ
row_room = 64

-- a row where a buffer of so many bytes has room for any; else nothing
unfoldable pub row_if_room : ℕ → List ℕ → List ℕ
row_if_room room row = cond (ltb room row_room) [] row
