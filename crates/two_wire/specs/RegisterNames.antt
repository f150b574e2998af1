-- Registers by name, of the VV5404 and VV6404 (004, Table 8), and of the VV5300 (000, 'The programmers model').
use Rattle.std.specs.Prelude.{ℕ}

-- setup register 0
abbrev pub setup0 : ℕ
setup0 = 16

-- setup register 1
abbrev pub setup1 : ℕ
setup1 = 17

-- setup register 2
abbrev pub setup2 : ℕ
setup2 = 18

-- of the VV5300 alone
abbrev pub setup3 : ℕ
setup3 = 19

-- setup register 4
abbrev pub setup4 : ℕ
setup4 = 20

-- of the VV5404 and VV6404 alone
abbrev pub setup5 : ℕ
setup5 = 21

-- fine exposure, high byte
abbrev pub fine_high : ℕ
fine_high = 32

-- fine exposure, low byte
abbrev pub fine_low : ℕ
fine_low = 33

-- coarse exposure, high byte
abbrev pub coarse_high : ℕ
coarse_high = 34

-- coarse exposure, low byte
abbrev pub coarse_low : ℕ
coarse_low = 35

-- the gain code
abbrev pub gain : ℕ
gain = 36

-- the clock divisor
abbrev pub clock_divisor : ℕ
clock_divisor = 37
