-- Line periods (02, A7): nibbles and pixel periods, two units.
use Rattle.std.specs.Prelude.{cond, ℕ, ◌/◌, ◌%◌, eqb, None, Option as Optional, Some}
use Rattle.std.proofs.Math.Option.{Option, none, some}
use Rattle.period.specs.declared.Nibbles.{Nibbles}
use Rattle.period.specs.declared.Rate.{Rate}
use Rattle.period.specs.declared.Rate.TheVariants.{Thirty, TwentyFive, Unnamed}
use Rattle.period.specs.declared.Periods.{Periods}

-- the largest count of nibbles that is told: a larger one is held there
abbrev pub most_nibbles : ℕ
most_nibbles = 65535

-- the paper's values of the program's answers: how many periods, none where that is not whole; how many frames a second, none where a period
-- is unnamed
abbrev pub periods_in : Optional Periods → Option ℕ
periods_in (Some p) = some p.0
periods_in None = none

-- frames a second, of a period with a name
abbrev pub frames_in : Rate → Option ℕ
frames_in Thirty = some 30
frames_in TwentyFive = some 25
frames_in Unnamed = none

-- one period is two nibbles; an odd count is no whole period
unfoldable pub whole_of : Nibbles → Option ℕ
whole_of n = cond (eqb (n.0 % 2) 0) (some (n.0 / 2)) none

-- 786 nibbles is named 30 frames a second, 942 is 25, anything else unnamed
unfoldable pub rate_of : Nibbles → Option ℕ
rate_of n = cond (eqb n.0 786) (some 30) (cond (eqb n.0 942) (some 25) none)
