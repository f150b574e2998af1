-- The code bytes of lines that arrive with bits of them flipped. Definitions only.
use Rattle.std.specs.Prelude.{ℕ}
use Rattle.bits.specs.Bits.{flipped}
use Rattle.line_code.specs.declared.Meaning.TheVariants.{EndOfLine, Line}
use Rattle.line_code.specs.LineCode.{clean_byte}
use Rattle.flip_laws.specs.Flips.{Flips, no_bit, one_bit, two_bits, Arrived}

-- a code byte with these bits flipped
abbrev pub flipped_code : Flips → ℕ → ℕ
flipped_code no_bit c = c
flipped_code (one_bit i l) c = flipped c i
flipped_code (two_bits i j l k d) c = flipped (flipped c i) j

-- the code that starts a line, as it arrives
abbrev pub start_code : Arrived → ℕ
start_code a = flipped_code a.start (clean_byte (Line a.sent.kind))

-- the code that ends it
abbrev pub ending_code : Arrived → ℕ
ending_code a = flipped_code a.end (clean_byte EndOfLine)
