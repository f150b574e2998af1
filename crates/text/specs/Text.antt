-- Texts in ASCII: words, numbers in decimal, bytes in hex.
use Rattle.std.specs.Prelude.{cond, List, [], ◌∷◌, ◌++◌, ℕ, zero, suc, ◌+◌, ◌/◌, ◌%◌, ltb}
use Prim.Native.Char.{code}
use Prim.Native.String.{String, [] as end, ◌∷◌ as ◌then◌}

-- a text as its ASCII bytes
abbrev pub ascii : String → List ℕ
ascii end = []
ascii (c then s) = code c ∷ ascii s

-- a space
abbrev pub space : ℕ
space = 0x20

-- a newline
abbrev pub newline : ℕ
newline = 0x0A

-- Numbers.

-- the digit of a number below 10
abbrev pub digit : ℕ → ℕ
digit n = 0x30 + n

-- the decimal digits of a number below 10 ^ k
abbrev pub digits : ℕ → ℕ → List ℕ
digits zero n = []
digits (suc k) n = cond (ltb n 10) (digit n ∷ []) (digits k (n / 10) ++ (digit (n % 10) ∷ []))

-- a number in decimal: one below 2 ^ 64 has at most 20 digits
unfoldable pub decimal : ℕ → List ℕ
decimal n = digits 20 n

-- Bytes.

-- the hex digit of a number below 16: 0 to 9, a to f
unfoldable pub hex_digit : ℕ → ℕ
hex_digit n = cond (ltb n 10) (0x30 + n) (0x57 + n)

-- a byte in hex: two digits
abbrev pub hex_byte : ℕ → List ℕ
hex_byte b = hex_digit (b / 16) ∷ hex_digit (b % 16) ∷ []
