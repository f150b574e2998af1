-- The period of a gap by places (02, A7): of the marks among all nibbles taken, and what each brought. Definitions only.
use Rattle.std.specs.Prelude.{cond, List, [], ◌∷◌, ℕ, ◌-◌, min, length}
use Rattle.period.specs.Period.{most_nibbles}
use Rattle.profile.specs.declared.Profile.{Profile}
use Rattle.stream.specs.Answers.{Outcome, is_line}
use Rattle.stream.specs.Stream.{State, fresh, step}
use Rattle.recovery.specs.Calls.{mark_nibbles}
use Rattle.recovery.specs.Marks.{completes}

-- a mark among the nibbles taken: the place of its first F, and the answer that its code brought, which is that of the mark before it
pub record Noted : Type 0 where
  pub place : ℕ
  pub told : Outcome

-- the marks, newest first, with one nibble more: all nibbles so far (newest first), the marks among them, the new nibble and what it brought.
-- A mark's first F stands eight nibbles back from its end
abbrev pub noted : List ℕ → List Noted → ℕ → Outcome → List Noted
noted all ms n o = cond (completes (n ∷ all)) (record { place = length (n ∷ all) - mark_nibbles; told = o } ∷ ms) ms

-- the marks of nibbles that are fed from a fresh reader on
abbrev pub noted_from : Profile → State → List ℕ → List Noted → List ℕ → List Noted
noted_from p s all ms [] = ms
noted_from p s all ms (n ∷ w) = noted_from p (step p s n).state (n ∷ all) (noted all ms n (step p s n).outcome) w

-- the marks of nibbles, each with its places
abbrev pub marks_of : Profile → List ℕ → List Noted
marks_of p w = noted_from p fresh [] [] w

-- the period of the gap that the newest mark closes: from the first F of the mark two before it, which is the line's, to its own first F,
-- held at 65,535; and 0 where the mark between, the gap's, brought no line
abbrev pub period_by : List Noted → ℕ
period_by [] = 0
period_by (c ∷ []) = 0
period_by (c ∷ b ∷ []) = 0
period_by (c ∷ b ∷ a ∷ ms) = cond (is_line b.told) (min most_nibbles (c.place - a.place)) 0
