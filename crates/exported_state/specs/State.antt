-- A reader's state as bytes of a lent buffer, in this order: the profile's number; the kind number of the mark before the open mark, 6
-- more where it was handed out as a line (0: no line kind; 6: no mark is open); the open mark's code; the count and the window, four bytes each, the highest first; the two bytes kept;
-- whether a stray nibble is noted; and the body.
use Rattle.std.specs.Prelude.{Bool, true, false, ◌&&◌, cond, List, [], ◌∷◌, ◌++◌, ℕ, ◌+◌, ◌-◌, ◌*◌, ◌/◌, ◌%◌, eqb, leb, ltb, length, get_or, take, drop}
use Rattle.exported_call.specs.LentCall.{bit_of}
use Rattle.line_code.specs.LineCode.{kind_number, kind_numbered}
use Rattle.profile.specs.declared.Profile.{Profile}
use Rattle.profile.specs.declared.Profile.TheVariants.{VV5404, VV5300}
use Rattle.profile.specs.Profile.{profile_number, longest}
use Rattle.stream.specs.declared.Before.{Before}
use Rattle.stream.specs.declared.Before.TheVariants.{NoLine, RefusedLine, HandedOut}
use Rattle.stream.specs.declared.Mark.{Mark}
use Rattle.stream.specs.declared.Mark.TheVariants.{NoMark, Open}
use Rattle.stream.specs.Stream.{before_by}
use Rattle.reader_head.specs.declared.Head.{Head}
use Rattle.reader.specs.declared.Reader.{Reader}
use Rattle.reader_head.specs.Head.{passes}
use Rattle.reader.specs.Reader.{fresh_reader}

-- the bytes of all but the body, and of a whole state
abbrev pub head_length : ℕ
head_length = 14

-- how many bytes a reader's state has
abbrev pub state_length : ℕ
state_length = head_length + longest

-- A reader as bytes.

-- in place of a kind number: no mark is open
abbrev pub no_mark : ℕ
no_mark = 6

-- a kind number, 0 for no line kind; and 6 more for a line handed out
abbrev pub before_number : Before → ℕ
before_number NoLine = 0
before_number (RefusedLine k) = kind_number k
before_number (HandedOut k) = no_mark + kind_number k

-- the greatest of these
abbrev pub greatest_mark : ℕ
greatest_mark = 11

-- what a mark is, in one byte
abbrev pub mark_number : Mark → ℕ
mark_number NoMark = no_mark
mark_number (Open before code) = before_number before

-- the code of the open mark
abbrev pub code_of : Mark → ℕ
code_of NoMark = 0
code_of (Open before code) = code

-- a number's four bytes, the highest first, in front of others
abbrev pub four_bytes : ℕ → List ℕ → List ℕ
four_bytes n w = n / 0x1000000 ∷ n / 0x10000 % 256 ∷ n / 0x100 % 256 ∷ n % 256 ∷ w

-- the bytes of a head
unfoldable pub head_bytes : Head → List ℕ
head_bytes h =
    profile_number h.profile
    ∷ mark_number h.at
    ∷ code_of h.at
    ∷ four_bytes h.count (four_bytes h.window (h.kept.first ∷ h.kept.second ∷ bit_of h.kept.stray ∷ []))

-- bytes with a head's at their front, and the rest as it was; as they were where they are fewer than a head's
unfoldable pub head_stored : Head → List ℕ → List ℕ
head_stored h s = cond (leb head_length (length s)) (head_bytes h ++ drop head_length s) s

-- a buffer with a reader's state at its front, and the rest as it was
unfoldable pub stored : Reader → List ℕ → List ℕ
stored r s = head_bytes r.head ++ (r.body ++ drop state_length s)

-- The reader that bytes hold.

-- the profile of a byte
abbrev pub profile_of : ℕ → Profile
profile_of n = cond (eqb n 0) VV5404 VV5300

-- what the mark before was, of a byte
abbrev pub before_numbered : ℕ → Before
before_numbered n = cond (ltb n no_mark) (before_by (kind_numbered n) false) (before_by (kind_numbered (n - no_mark)) true)

-- the mark of two bytes
abbrev pub mark_numbered : ℕ → ℕ → Mark
mark_numbered n code = cond (eqb n no_mark) NoMark (Open (before_numbered n) code)

-- a number from its four bytes
abbrev pub number_of : ℕ → ℕ → ℕ → ℕ → ℕ
number_of a b c d = 0x1000000 * a + 0x10000 * b + 0x100 * c + d

-- the head that bytes hold
unfoldable pub head_in : List ℕ → Head
head_in s =
    record {
      profile = profile_of (get_or s 0 0);
      at = mark_numbered (get_or s 1 0) (get_or s 2 0);
      count = number_of (get_or s 3 0) (get_or s 4 0) (get_or s 5 0) (get_or s 6 0);
      window = number_of (get_or s 7 0) (get_or s 8 0) (get_or s 9 0) (get_or s 10 0);
      kept = record { first = get_or s 11 0; second = get_or s 12 0; stray = eqb (get_or s 13 0) 1 };
    }

-- the head that bytes hold; a fresh reader's where they are too few for a state
unfoldable pub held_head : List ℕ → Head
held_head s = cond (leb state_length (length s)) (head_in s) (fresh_reader VV5404).head

-- the body that bytes hold
abbrev pub body_in : List ℕ → List ℕ
body_in s = take longest (drop head_length s)

-- the reader that bytes hold
abbrev pub reader_in : List ℕ → Reader
reader_in s = record { head = head_in s; body = body_in s }

-- these are numbers of a profile, of an open mark and of a bool
unfoldable pub tagged : ℕ → ℕ → ℕ → Bool
tagged profile mark stray = leb profile 1 && (leb mark greatest_mark && leb stray 1)

-- the bytes hold a reader, and it passes its own test
unfoldable pub holds_reader : List ℕ → Bool
holds_reader s = leb state_length (length s) && (tagged (get_or s 0 0) (get_or s 1 0) (get_or s 13 0) && passes (head_in s))
