-- The periods of lines, counted (02, A7): by their name, the others with their least and greatest.
use Rattle.std.specs.Prelude.{cond, ℕ, eqb, ltb}
use Rattle.std.proofs.Math.Option.{Option, none, some}
use Rattle.counts.specs.Counts.{one_more}
use Rattle.period.specs.declared.Nibbles.{Nibbles}
use Rattle.period.specs.Period.{rate_of}
use Rattle.spacing.specs.declared.Spacing.{Spacing}

-- none counted
abbrev pub no_periods : Spacing
no_periods = record { thirty = 0; twentyfive = 0; others = 0; least = 0; greatest = 0 }

-- the least so far, 0 for none, and the greatest, with one more
unfoldable pub lesser : ℕ → ℕ → ℕ
lesser least n = cond (eqb least 0) n (cond (ltb n least) n least)

-- the greater of two periods
unfoldable pub greater : ℕ → ℕ → ℕ
greater greatest n = cond (ltb greatest n) n greatest

-- one period of 30 frames a second more
abbrev pub thirty_more : Spacing → Spacing
thirty_more s = record { thirty = one_more s.thirty; twentyfive = s.twentyfive; others = s.others; least = s.least; greatest = s.greatest }

-- one period of 25 frames a second more
abbrev pub twenty_five_more : Spacing → Spacing
twenty_five_more s = record { thirty = s.thirty; twentyfive = one_more s.twentyfive; others = s.others; least = s.least; greatest = s.greatest }

-- one period without a name more
abbrev pub other_more : Spacing → ℕ → Spacing
other_more s n =
    record {
      thirty = s.thirty;
      twentyfive = s.twentyfive;
      others = one_more s.others;
      least = lesser s.least n;
      greatest = greater s.greatest n;
    }

-- by the frames a second that it is named after, if any
abbrev pub by_rate : Spacing → ℕ → Option ℕ → Spacing
by_rate s n none = other_more s n
by_rate s n (some rate) = cond (eqb rate 30) (thirty_more s) (twenty_five_more s)

-- the period of a gap: 0 is none
unfoldable pub with_period : Spacing → Nibbles → Spacing
with_period s n = cond (eqb n.0 0) s (by_rate s n.0 (rate_of n))
