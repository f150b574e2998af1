-- Why a mark is answered as it is, in words: the line on a mark of a capture (02, A9).
use Rattle.std.specs.Prelude.{Bool, cond, List, [], ◌∷◌, ◌++◌, ℕ, ◌+◌, ◌-◌, ◌*◌, ◌/◌, ◌%◌, min, eqb, ltb, length, take, drop, get_or}
use Rattle.text.specs.Text.{ascii, space, newline, decimal, hex_byte}
use Rattle.profile.specs.declared.Profile.{Profile}
use Rattle.profile.specs.Profile.{profile_number}
use Rattle.stream.specs.Answers.{line_nibbles}
use Rattle.stream.specs.Written.{nibbles}
use Rattle.reason.specs.declared.Reason.{Reason}
use Rattle.reason.specs.declared.Reason.TheVariants.{GoodLine, GoodGap, DamagedCode, ReservedCode, UnfinishedLine, WrongLength, BadNumber, BadBody, NoEndOfLine, EndWithoutLine, BadGap, ShortGap, Refused}
use Rattle.reason.specs.Explanation.{explanation}
use Rattle.why_words.specs.ReasonWords.{explained_words}
use Rattle.mark_finder.specs.declared.Located.{Located}
use Rattle.mark_finder.specs.MarkFinder.{span}

-- The mark's reason, of the capture's bytes from the one that the mark begins in.

-- the bytes that are looked at
abbrev pub most_bytes : ℕ
most_bytes = 1024

-- the nibbles of the first byte that stand before the mark
abbrev pub nibbles_before : Bool → ℕ
nibbles_before low = cond low 1 0

-- the run that begins with the mark
abbrev pub run_in : Bool → List ℕ → List ℕ
run_in low bytes = drop (nibbles_before low) (nibbles (take most_bytes bytes))

-- the reason of a mark's bytes
abbrev pub reason_of_run : Located → List ℕ → Reason
reason_of_run m bytes = explanation (profile_number m.profile) m.before (run_in m.low bytes)

-- the mark's code byte: after F F F F 0 0
unfoldable pub code_in : Bool → List ℕ → ℕ
code_in low bytes = cond low (16 * (get_or bytes 3 0 % 16) + get_or bytes 4 0 / 16) (get_or bytes 3 0)

-- there are more bytes than are looked at
abbrev pub is_beyond : List ℕ → Bool
is_beyond bytes = ltb most_bytes (length bytes)

-- a good mark that goes on beyond what is looked at is an end of line, since no line is that long; any other mark has the reason of its run
unfoldable pub reason_in : Located → List ℕ → Reason
reason_in m bytes = cond (is_beyond bytes) (cond (eqb m.refusal 0) GoodGap (reason_of_run m bytes)) (reason_of_run m bytes)

-- which mark, and where: `mark 713, byte 140212: `
unfoldable pub mark_words : ℕ → ℕ → List ℕ
mark_words number place = ascii "mark " ++ (decimal number ++ (ascii ", byte " ++ (decimal place ++ ascii ": ")))

-- Bytes around the bad place.

-- the bad place, in nibbles from the mark's first; 0 where there is none. F F F F 0 0 and the code stand before a number and a gap, and the
-- number's two bytes before a body
abbrev pub bad_place : Profile → Reason → ℕ
bad_place p GoodLine = 0
bad_place p GoodGap = 0
bad_place p (DamagedCode byte sums) = 6
bad_place p ReservedCode = 6
bad_place p UnfinishedLine = 0
bad_place p (WrongLength found wanted) = 6 + min found (2 * most_bytes)
bad_place p (BadNumber place byte) = 8 + 2 * min place (2 * most_bytes)
bad_place p (BadBody place byte) = 12 + 2 * min place (2 * most_bytes)
bad_place p (NoEndOfLine next) = 12 + line_nibbles p
bad_place p EndWithoutLine = 6
bad_place p (BadGap place nibble) = 8 + min place (2 * most_bytes)
bad_place p (ShortGap length) = 8 + min length (2 * most_bytes)
bad_place p (Refused number) = 0

-- a byte in hex, and a space before it; and bytes so
abbrev pub spaced_hex : ℕ → List ℕ
spaced_hex b = space ∷ hex_byte b

-- bytes in hex, with a space before each
abbrev pub hexes : List ℕ → List ℕ
hexes [] = []
hexes (b ∷ bs) = spaced_hex b ++ hexes bs

-- how many bytes are shown on either side
abbrev pub shown_beside : ℕ
shown_beside = 4

-- a byte in brackets, with some more, four before these and four after: ` 07 07 07 07 [08] ff ff 00 80`, ` 0f ff f0 [09 e0]`
unfoldable pub around_bad : List ℕ → ℕ → ℕ → List ℕ
around_bad bytes i more =
    let end : ℕ = min (length bytes) (i + 1 + more) in
    hexes (span bytes (i - min i shown_beside) i)
    ++ (ascii " ["
    ++ (hex_byte (get_or bytes i 0)
    ++ (hexes (span bytes (i + 1) end) ++ (ascii "]" ++ hexes (span bytes end (min (length bytes) (end + shown_beside)))))))

-- where there is a bad place, and a byte there; a bad byte that begins in the second half of one is in brackets with the next
unfoldable pub around_words : List ℕ → Bool → ℕ → List ℕ
around_words bytes low place =
    let n : ℕ = nibbles_before low + place in
    cond (ltb 0 place) (cond (ltb (n / 2) (length bytes)) (ascii "; there:" ++ around_bad bytes (n / 2) (n % 2)) []) []

-- The line.

-- the line on a mark: where it stands, its reason, and the bytes around the bad place
unfoldable pub mark_line : Located → List ℕ → List ℕ
mark_line m bytes =
    mark_words m.number m.place
    ++ (explained_words (is_beyond bytes) m.refusal (code_in m.low bytes) (reason_in m bytes)
    ++ (around_words bytes m.low (bad_place m.profile (reason_in m bytes)) ++ (newline ∷ [])))

-- the bytes that no line exceeds
abbrev pub line_room : ℕ
line_room = 256

-- a line where a buffer of so many bytes has room for any; else nothing
unfoldable pub line_if_room : ℕ → List ℕ → List ℕ
line_if_room room line = cond (ltb room line_room) [] line
