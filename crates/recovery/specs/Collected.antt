-- What is collected of outcomes, in order: whatever each of them brings. Definitions only.
use Rattle.std.specs.Prelude.{List, [], ◌∷◌, ◌++◌, ℕ}
use Rattle.stream.specs.Answers.{Outcome, nothing}
use Rattle.profile.specs.declared.Profile.{Profile}
use Rattle.stream.specs.Stream.{State, outcomes}
use Rattle.recovery.specs.Calls.{LineOut, line_in, gap_in}
use Rattle.stream.specs.declared.GapFacts.{GapFacts}

-- nibbles that bring nothing
abbrev pub nothings : List ℕ → List Outcome
nothings [] = []
nothings (n ∷ w) = nothing ∷ nothings w

-- what outcomes bring, in order, by what each of them brings
abbrev pub collected : {A : Type 0} → (Outcome → List A) → List Outcome → List A
collected brings [] = []
collected brings (o ∷ os) = brings o ++ collected brings os

-- the lines that nibbles bring out
abbrev pub lines : Profile → State → List ℕ → List LineOut
lines p s w = collected line_in (outcomes p s w)

-- the good gaps that nibbles bring out
abbrev pub gaps : Profile → State → List ℕ → List GapFacts
gaps p s w = collected gap_in (outcomes p s w)
