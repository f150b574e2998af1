-- Line numbers (01, 'Line numbers'): 12 bits, split into two 6-bit values, high first.
use Rattle.std.specs.Prelude.{Bool, ◌&&◌, cond, ℕ, ◌+◌, ◌*◌, ◌/◌, ◌%◌, eqb, leb, ltb, None, Option, Some}
use Rattle.std.specs.Int.Count.{ones}

-- the greatest line number
abbrev pub greatest : ℕ
greatest = 4095

-- a 6-bit value as a byte: a 0, the six bits, then a bit that makes the count of ones odd
unfoldable pub number_byte : ℕ → ℕ
number_byte v = 2 * v + (ones v + 1) % 2

-- a number byte: top bit 0, and an odd count of ones
unfoldable pub number_good : ℕ → Bool
number_good b = ltb b 128 && eqb (ones b % 2) 1

-- the number of two number bytes
abbrev pub number_from : ℕ → ℕ → ℕ
number_from high low = 64 * (high / 2) + low / 2

-- a number's two bytes, high six bits first
abbrev pub two_bytes : ℕ → ℕ → Option (ℕ × ℕ)
two_bytes high low = Some (high, low)

-- a number as two bytes, the high one first
abbrev pub encode_of : ℕ → Option (ℕ × ℕ)
encode_of n = cond (leb n greatest) (two_bytes (number_byte (n / 64)) (number_byte (n % 64))) None

-- the number of two bytes, or bad
abbrev pub decode_of : ℕ → ℕ → Option ℕ
decode_of high low = cond (number_good high && number_good low) (Some (number_from high low)) None
