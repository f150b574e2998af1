-- Messages in hex: written, and read.
use Rattle.std.specs.Prelude.{Bool, true, ◌&&◌, cond, List, [], ◌∷◌, ◌++◌, ℕ, ◌+◌, ◌-◌, ◌*◌, ◌%◌, eqb, leb, ltb, length}
use Rattle.text.specs.Text.{space, newline, hex_byte}

-- Written.

-- a message: its bytes, one space between two
abbrev pub hex_bytes : List ℕ → List ℕ
hex_bytes [] = []
hex_bytes (b ∷ []) = hex_byte b
hex_bytes (b ∷ d ∷ bytes) = hex_byte b ++ (space ∷ hex_bytes (d ∷ bytes))

-- all below 256
abbrev pub all_bytes : List ℕ → Bool
all_bytes [] = true
all_bytes (b ∷ bytes) = ltb b 256 && all_bytes bytes

-- on a line of its own
abbrev pub hex_text : List ℕ → List ℕ
hex_text bytes = hex_bytes bytes ++ (newline ∷ [])

-- Read.

-- the number of a digit, 0 to 9, A to F or a to f; 16 where it is none
unfoldable pub digit_of : ℕ → ℕ
digit_of c =
    cond (ltb c 0x30) 16
    (cond (leb c 0x39) (c - 0x30)
    (cond (ltb c 0x41) 16 (cond (leb c 0x46) (c - 0x37) (cond (ltb c 0x61) 16 (cond (leb c 0x66) (c - 0x57) 16)))))

-- what stands at a place of a message's line: two digits and a space, over and over
unfoldable pub char_fits : ℕ → ℕ → Bool
char_fits place c = cond (eqb (place % 3) 2) (eqb c space) (ltb (digit_of c) 16)

-- each character fits its place
abbrev pub chars_fit : ℕ → List ℕ → Bool
chars_fit place [] = true
chars_fit place (c ∷ line) = char_fits place c && chars_fit (place + 1) line

-- a line of bytes, each of two digits, one space between two
unfoldable pub is_message : List ℕ → Bool
is_message line = eqb (length line % 3) 2 && chars_fit 0 line

-- the byte of two digits
unfoldable pub byte_of : ℕ → ℕ → ℕ
byte_of a b = (16 * digit_of a + digit_of b) % 256

-- the bytes of a message's line
abbrev pub bytes_of : List ℕ → List ℕ
bytes_of [] = []
bytes_of (a ∷ []) = []
bytes_of (a ∷ b ∷ []) = byte_of a b ∷ []
bytes_of (a ∷ b ∷ c ∷ line) = byte_of a b ∷ bytes_of line
