-- A list of profile 0 lines, as it is lent (02, A13): each line is 359 bytes, its kind, its number in two bytes, high byte first, and its body.
use Rattle.std.specs.Prelude.{◌≡◌, Bool, true, ◌&&◌, List, [], ◌∷◌, ◌++◌, ℕ, zero, suc, ◌+◌, ◌*◌, ◌/◌, ◌%◌, ◌≤◌, ◌<◌, min, eqb, leb, length, get_or, take, drop}
use Rattle.line_code.specs.declared.Kind.TheVariants.{BL, EOF}
use Rattle.line_code.specs.LineCode.{kind_number}
use Rattle.line_number.specs.LineNumber.{greatest}
use Rattle.profile.specs.Profile.{width}

-- a line with all that a list holds of it
pub record FullLine : Type 0 where
  pub kind : ℕ
  pub number : ℕ
  pub body : List ℕ

-- the bytes of a line before its body, and of the line
abbrev pub head_size : ℕ
head_size = 3

-- how many bytes a line has in a list
abbrev pub line_size : ℕ
line_size = head_size + width

-- a number from its high and its low byte
abbrev pub from_two : ℕ → ℕ → ℕ
from_two high low = 256 * high + low

-- a number in two bytes, high byte first
abbrev pub in_two : ℕ → List ℕ
in_two n = n / 256 ∷ n % 256 ∷ []

-- the line that some bytes start with
unfoldable pub front_line : List ℕ → FullLine
front_line bytes =
    record { kind = get_or bytes 0 0; number = from_two (get_or bytes 1 0) (get_or bytes 2 0); body = take width (drop head_size bytes) }

-- the first n lines of some bytes
abbrev pub first_lines : ℕ → List ℕ → List FullLine
first_lines zero bytes = []
first_lines (suc n) bytes = front_line bytes ∷ first_lines n (drop line_size bytes)

-- the lines of a list: what follows the last whole line is none
unfoldable pub full_lines : List ℕ → List FullLine
full_lines bytes = first_lines (length bytes / line_size) bytes

-- how many lines a list of so many bytes has whose head is there, kind and number: the whole ones, and a last one that is cut within its body
abbrev pub head_count : ℕ → ℕ
head_count size = (size + width) / line_size

-- these lines
unfoldable pub headed_lines : List ℕ → List FullLine
headed_lines bytes = first_lines (head_count (length bytes)) bytes

-- nothing follows the last whole line
abbrev pub none_cut : List ℕ → Bool
none_cut bytes = eqb (length bytes % line_size) 0

-- lines as they are lent
abbrev pub as_lent : List FullLine → List ℕ
as_lent [] = []
as_lent (l ∷ ls) = (l.kind ∷ in_two l.number) ++ (l.body ++ as_lent ls)

-- the numbers rise strictly, the first from `least` on
abbrev pub rises_from : ℕ → List FullLine → Bool
rises_from least [] = true
rises_from least (l ∷ ls) = leb least l.number && rises_from (suc l.number) ls

-- the numbers rise from line to line
abbrev pub rises : List FullLine → Bool
rises = rises_from 0

-- no number is above 4095
abbrev pub numbers_small : List FullLine → Bool
numbers_small [] = true
numbers_small (l ∷ ls) = leb l.number greatest && numbers_small ls

-- each kind is 1 to 5
abbrev pub kinds_known : List FullLine → Bool
kinds_known [] = true
kinds_known (l ∷ ls) = (leb (kind_number BL) l.kind && leb l.kind (kind_number EOF)) && kinds_known ls

-- more than any number that two bytes hold
abbrev pub no_line : ℕ
no_line = 65536

-- the place where the line at a place ends: the next line's, or the list's end
abbrev pub line_end : ℕ → ℕ → ℕ
line_end place size = min (place + line_size) size

-- the number of the line that a list starts with, or more than any where it has none
pub data Next (list : List ℕ) : ℕ → Type 0 where
  none : length list < line_size → Next list no_line
  some : {n : ℕ} → line_size ≤ length list → n ≡ (front_line list).number → n < no_line → Next list n
