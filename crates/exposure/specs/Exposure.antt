-- Exposure settings of the VV5404 and VV6404: what they may be (004, Table 24, and the registers after it; 02, A11).
use Rattle.std.specs.Prelude.{Bool, true, false, cond, ℕ, eqb}

-- frames a second
abbrev pub rate25 : ℕ
rate25 = 25

-- the faster of the two frame rates, in frames a second
abbrev pub rate30 : ℕ
rate30 = 30

-- the greatest fine exposure at each rate; the sensor clips what is above
abbrev pub fine_limit25 : ℕ
fine_limit25 = 438

-- the greatest fine exposure at 30 frames a second
abbrev pub fine_limit30 : ℕ
fine_limit30 = 360

-- the greatest fine exposure at a frame rate
unfoldable pub fine_limit : ℕ → ℕ
fine_limit rate = cond (eqb rate rate30) fine_limit30 fine_limit25

-- the greatest coarse exposure
abbrev pub coarse_limit : ℕ
coarse_limit = 302

-- the greatest clock divisor
abbrev pub divisor_limit : ℕ
divisor_limit = 3

-- a gain code, for a gain of 1, 2, 4 or 8
unfoldable pub is_gain : ℕ → Bool
is_gain n = cond (eqb n 0) true (cond (eqb n 1) true (cond (eqb n 3) true (cond (eqb n 7) true false)))
