-- Periods of lines that no clean stream has (02, A7; 01, the writer's paragraph): of an odd count of nibbles, and longer than any line that is written.
use Rattle.std.specs.Prelude.{Bool, ◌&&◌, cond, ℕ, ◌+◌, ◌*◌, ◌%◌, eqb, ltb}
use Rattle.counts.specs.Counts.{one_more}
use Rattle.period.specs.declared.Nibbles.{Nibbles}
use Rattle.period.specs.Period.{most_nibbles}
use Rattle.profile.specs.declared.Profile.{Profile}
use Rattle.stream.specs.Answers.{line_nibbles, group_nibbles}
use Rattle.stream.specs.Written.{most_nulls}
use Rattle.period_faults.specs.declared.PeriodFaults.{PeriodFaults}

-- the longest line that is written: code, number and body after a start mark's first six nibbles, an end mark, two gap bytes and the most nulls:
-- 1246 nibbles in profile 0, 870 in profile 1
abbrev pub most_period : Profile → ℕ
most_period p = (group_nibbles + line_nibbles p) + (group_nibbles + 2 * (1 + 2 + most_nulls))

-- an odd count; the greatest that is told stands for every longer one
abbrev pub is_odd : Nibbles → Bool
is_odd n = eqb (n.0 % 2) 1 && ltb n.0 most_nibbles

-- longer than any that is written
abbrev pub is_long : Profile → Nibbles → Bool
is_long p n = ltb (most_period p) n.0

-- none
abbrev pub no_faults : PeriodFaults
no_faults = record { odd = 0; long = 0 }

-- with the period of a gap: 0 is none, and neither odd nor long
unfoldable pub with_period : Profile → PeriodFaults → Nibbles → PeriodFaults
with_period p f n = record { odd = cond (is_odd n) (one_more f.odd) f.odd; long = cond (is_long p n) (one_more f.long) f.long }
