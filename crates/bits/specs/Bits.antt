-- Bits of a byte, as numbers.
use Rattle.std.specs.Prelude.{ℕ, ◌+◌, ◌-◌, ◌*◌, ◌/◌, ◌%◌, ◌^◌}

-- the bit of weight 2 ^ i
abbrev pub bit : ℕ → ℕ → ℕ
bit b i = b / (2 ^ i) % 2

-- b with the bit of weight 2 ^ i flipped
abbrev pub flipped : ℕ → ℕ → ℕ
flipped b i = b + 2 ^ i - bit b i * 2 ^ (i + 1)
