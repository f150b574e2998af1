-- The answers that marks get over a list of calls: of the nibbles taken, and of finish where it is the last call. Definitions only.
use Rattle.std.specs.Prelude.{Bool, true, false, cond, List, [], ◌∷◌, ℕ, ltb}
use Rattle.refusal.specs.Refusal.{not_a_nibble}
use Rattle.profile.specs.declared.Profile.{Profile}
use Rattle.stream.specs.Answers.{Outcome, nothing, line, gap, refused}
use Rattle.stream.specs.Stream.{State, outcomes}
use Rattle.recovery.specs.Calls.{Call, feed, done, Collector}
use Rattle.recovery.specs.CleanAnswers.{outcomes_finished}

-- a mark's answer in an outcome: a line, a good gap, or a refusal 1 to 9. Refusals from 10 on are of the call, and answer no mark
abbrev pub mark_answer_in : Outcome → List Outcome
mark_answer_in nothing = []
mark_answer_in (line f body) = line f body ∷ []
mark_answer_in (gap g) = gap g ∷ []
mark_answer_in (refused n) = cond (ltb n not_a_nibble) (refused n ∷ []) []

-- every mark's answer
abbrev pub mark_collector : Collector Outcome
mark_collector = record { fed = mark_answer_in; finished = mark_answer_in }

-- whether finish is among the calls
abbrev pub with_finish : List Call → Bool
with_finish [] = false
with_finish (feed n buffer ∷ cs) = with_finish cs
with_finish (done ∷ cs) = true

-- what nibbles bring from a state on, and then finish, where it comes
abbrev pub brought_by : Profile → State → List ℕ → Bool → List Outcome
brought_by p x w false = outcomes p x w
brought_by p x w true = outcomes_finished p x w
