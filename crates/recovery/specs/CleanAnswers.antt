-- The answers over a clean stream (01, 'One answer for each mark'): line, gap, line, gap, and so on to the last gap. Definitions only.
use Rattle.std.specs.Prelude.{List, [], ◌∷◌, ◌++◌, ℕ, length}
use Rattle.line_code.specs.declared.Repair.{Repair}
use Rattle.line_code.specs.declared.Repair.TheVariants.{Clean}
use Rattle.profile.specs.declared.Profile.{Profile}
use Rattle.stream.specs.Answers.{facts, Outcome, nothing, line, gap, refused}
use Rattle.stream.specs.Stream.{State, finish, run, outcomes}
use Rattle.stream.specs.Written.{Sent, written}
use Rattle.recovery.specs.Collected.{collected}

-- the answer in an outcome: nothing is none
abbrev pub said_in : Outcome → List Outcome
said_in nothing = []
said_in (line f body) = line f body ∷ []
said_in (gap g) = gap g ∷ []
said_in (refused n) = refused n ∷ []

-- the answers given, in order: the outcomes that are not nothing
abbrev pub said : List Outcome → List Outcome
said os = collected said_in os

-- what nibbles bring from a state on, and then finish
abbrev pub outcomes_finished : Profile → State → List ℕ → List Outcome
outcomes_finished p x w = outcomes p x w ++ ((finish p (run p x w)).outcome ∷ [])

-- the line given to the writer, with these repairs of the code that starts it and of the code that ends it
abbrev pub line_read : Sent → Repair → Repair → Outcome
line_read s start end = line (facts s.kind s.number start end) s.body

-- its good gap, with the two bytes given to the writer, and this period in nibbles
abbrev pub gap_read : Sent → ℕ → Outcome
gap_read s n = gap (record { first = s.gap_one; second = s.gap_two; period = record { 0 = n } })

-- each line, neither code repaired, and its gap, in the order sent. A line's period is its length as written, since the next line's mark stands
-- straight after it; the last gap is told by finish, and has none
abbrev pub clean_answers : List Sent → List Outcome
clean_answers [] = []
clean_answers (s ∷ []) = line_read s Clean Clean ∷ gap_read s 0 ∷ []
clean_answers (s ∷ next ∷ ss) = line_read s Clean Clean ∷ gap_read s (length (written s)) ∷ clean_answers (next ∷ ss)
