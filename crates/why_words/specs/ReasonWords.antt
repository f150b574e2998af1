-- A reason in words (02, A9).
use Rattle.std.specs.Prelude.{Bool, cond, List, [], ◌++◌, ℕ, eqb, None, Option, Some}
use Rattle.text.specs.Text.{ascii, decimal, hex_byte}
use Rattle.line_code.specs.declared.Kind.{Kind}
use Rattle.line_code.specs.declared.Kind.TheVariants.{BL, BK, VL, SOF, EOF}
use Rattle.line_code.specs.LineCode.{reading_of, kind_of}
use Rattle.reason.specs.declared.FailedSums.{FailedSums}
use Rattle.reason.specs.declared.Reason.{Reason}
use Rattle.reason.specs.declared.Reason.TheVariants.{GoodLine, GoodGap, DamagedCode, ReservedCode, UnfinishedLine, WrongLength, BadNumber, BadBody, NoEndOfLine, EndWithoutLine, BadGap, ShortGap, Refused}

-- a line's kind in words
abbrev pub kind_in_words : Kind → List ℕ
kind_in_words BL = ascii "blank line (BL)"
kind_in_words BK = ascii "black line (BK)"
kind_in_words VL = ascii "visible line (VL)"
kind_in_words SOF = ascii "start of frame (SOF)"
kind_in_words EOF = ascii "end of frame (EOF)"

-- what a mark is called
abbrev pub line_name : Option Kind → List ℕ
line_name None = ascii "line"
line_name (Some k) = kind_in_words k

-- words, and what a mark with this code begins: `refused 4: visible line (VL)`
unfoldable pub with_line_name : List ℕ → ℕ → List ℕ
with_line_name words code = words ++ line_name (kind_of (reading_of code))

-- a sum's name, where it fails
unfoldable pub sum_word : Bool → List ℕ → List ℕ
sum_word fails name = cond fails name []

-- the parity sums that fail
unfoldable pub sum_words : FailedSums → List ℕ
sum_words s = sum_word s.p0 (ascii " P0") ++ (sum_word s.p1 (ascii " P1") ++ (sum_word s.p2 (ascii " P2") ++ sum_word s.p3 (ascii " P3")))

-- a damaged code, with the sums that fail
unfoldable pub damaged_words : ℕ → FailedSums → List ℕ
damaged_words code sums = ascii "refused 1: damaged code " ++ (hex_byte code ++ (ascii ", its parity fails in" ++ sum_words sums))

-- a reserved code
unfoldable pub reserved_words : ℕ → List ℕ
reserved_words code = ascii "refused 2: reserved code " ++ hex_byte code

-- a refusal's number alone: `refused 4`
unfoldable pub refused_number : ℕ → List ℕ
refused_number refusal = ascii "refused " ++ decimal refusal

-- a line that goes on beyond what is looked at: the number is the reader's
unfoldable pub long_line_words : ℕ → ℕ → List ℕ
long_line_words refusal code = refused_number refusal ++ (with_line_name (ascii ": ") code ++ ascii " of more than 1000 bytes: a signal that was lost?")

-- a line that the end of the capture cuts off, or that goes on for long
unfoldable pub unfinished_words : Bool → ℕ → ℕ → List ℕ
unfinished_words cut refusal code =
    cond cut (long_line_words refusal code) (with_line_name (ascii "refused 3: ") code ++ ascii ", cut off by the end of the capture")

-- a line of the wrong length
unfoldable pub length_words : ℕ → ℕ → ℕ → List ℕ
length_words code found wanted =
    with_line_name (ascii "refused 4: ") code
    ++ (ascii " of " ++ (decimal found ++ (ascii " nibbles, not " ++ (decimal wanted ++ ascii ": a clip that slipped?"))))

-- a line with a bad byte: its place and the byte, with the words before and between
unfoldable pub bad_byte_words : List ℕ → ℕ → ℕ → List ℕ → ℕ → List ℕ
bad_byte_words words code place part byte = with_line_name words code ++ (ascii ", byte " ++ (decimal place ++ (part ++ hex_byte byte)))

-- a line that is not ended
unfoldable pub end_words : ℕ → ℕ → List ℕ
end_words code next = with_line_name (ascii "refused 7: ") code ++ (ascii ", not ended: the next mark has the code " ++ hex_byte next)

-- a number among words
unfoldable pub count_words : List ℕ → ℕ → List ℕ → List ℕ
count_words words count rest = words ++ (decimal count ++ rest)

-- the reader's answer, before what it answers: `good `, or `refused 9: `
unfoldable pub answer_words : ℕ → List ℕ
answer_words refusal = cond (eqb refusal 0) (ascii "good ") (refused_number refusal ++ ascii ": ")

-- an end of line whose gap goes on beyond what is looked at: the number is the reader's
unfoldable pub long_gap_words : ℕ → List ℕ
long_gap_words refusal = answer_words refusal ++ ascii "end of line with a gap of more than 1000 bytes: a signal that was lost?"

-- a good end of line
unfoldable pub good_gap_words : Bool → ℕ → List ℕ
good_gap_words cut refusal = cond cut (long_gap_words refusal) (ascii "good end of line")

-- each reason; where the mark goes on beyond what is looked at, a line and a gap that are good so far have the reader's number
unfoldable pub explained_words : Bool → ℕ → ℕ → Reason → List ℕ
explained_words cut refusal code GoodLine = with_line_name (ascii "good ") code
explained_words cut refusal code GoodGap = good_gap_words cut refusal
explained_words cut refusal code (DamagedCode byte sums) = damaged_words byte sums
explained_words cut refusal code ReservedCode = reserved_words code
explained_words cut refusal code UnfinishedLine = unfinished_words cut refusal code
explained_words cut refusal code (WrongLength found wanted) = length_words code found wanted
explained_words cut refusal code (BadNumber place byte) = bad_byte_words (ascii "refused 5: ") code place (ascii " of its number is ") byte
explained_words cut refusal code (BadBody place byte) = bad_byte_words (ascii "refused 6: ") code place (ascii " of its body is ") byte
explained_words cut refusal code (NoEndOfLine next) = end_words code next
explained_words cut refusal code EndWithoutLine = ascii "refused 8: end of line without a line before it"
explained_words cut refusal code (BadGap place nibble) = count_words (ascii "refused 9: end of line, a bad gap from its nibble ") place (ascii " on")
explained_words cut refusal code (ShortGap length) = count_words (ascii "refused 9: end of line, a gap of ") length (ascii " nibbles, 4 at least are wanted")
explained_words cut refusal code (Refused r) = refused_number r.0
