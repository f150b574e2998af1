-- What an answer and a reason say in short, to be compared: the paper's number, or good. And the answer that a mark gets from the meaning and
-- from the reader, when nibbles before it and a run that begins with it are read from a fresh state.
use Rattle.std.specs.Prelude.{Bool, ◌||◌, cond, List, [], ◌∷◌, ◌++◌, ℕ, ◌+◌, length, take, drop, None, Option as Optional, Some}
use Rattle.std.proofs.Math.Option.{Option, none, some}
use Rattle.profile.specs.declared.Profile.{Profile}
use Rattle.stream.specs.declared.Before.{Before}
use Rattle.stream.specs.declared.Before.TheVariants.{NoLine, RefusedLine, HandedOut}
use Rattle.stream.specs.Answers.{Outcome, nothing, line, gap, refused}
use Rattle.stream.specs.Stream.{State, fresh, kind_at, finish, run, outcomes}
use Rattle.reader.specs.Reader.{fresh_reader, finish_of}
use Rattle.recovery.specs.Calls.{mark_nibbles}
use Rattle.recovery.specs.CallAnswers.{mark_collector}
use Rattle.recovery.specs.CleanAnswers.{said}
use Rattle.refinement.specs.Refine.{fed_reader, fed_outcomes}
use Rattle.refinement.specs.Runs.{RunCall, runs_collected}
use Rattle.reason.specs.declared.Reason.{Reason}
use Rattle.reason.specs.Explanation.{opener, is_code, next_in, after_opener}
use Rattle.reason.specs.Valued as valued
use Rattle.reason.specs.Valued.{Valued, valued}
use Rattle.line_code.specs.declared.Kind.{Kind}

-- no answer yet, a good line, a good gap, or a refusal with its number
pub data Short : Type 0 where
  no_answer : Short
  good_line : Short
  good_gap_lem : Short
  refusal : ℕ → Short

-- an outcome without its values
abbrev pub in_short : Outcome → Short
in_short nothing = no_answer
in_short (line f body) = good_line
in_short (gap g) = good_gap_lem
in_short (refused n) = refusal n

-- a reason's number without its values
abbrev pub without_values : Valued → Short
without_values valued.good_line = good_line
without_values valued.good_gap_lem = good_gap_lem
without_values (valued.numbered n _) = refusal n
without_values (valued.refused n) = refusal n

-- a reason without its values
abbrev pub short_of : Reason → Short
short_of r = without_values (valued r)

-- the next mark's code, as the meaning has it
abbrev pub code_or : Optional ℕ → Option ℕ
code_or None = none
code_or (Some c) = some c

-- the line kind of the mark before, whether it was handed out or refused
abbrev pub before_kind : Before → Optional Kind
before_kind NoLine = None
before_kind (RefusedLine k) = Some k
before_kind (HandedOut k) = Some k

-- the line kind of the mark before one that begins after w₀: the last mark that is complete when the F F F F 0 0 has come in. (A mark's code
-- may lie on the next one's first nibbles, so it may not yet have come in with w₀.)
abbrev pub kind_before : Profile → List ℕ → Optional Kind
kind_before p w₀ = kind_at (run p fresh (w₀ ++ opener)).at

-- the first answer among outcomes, or else the one given
abbrev pub first_answer : List Outcome → Outcome → Outcome
first_answer [] o = o
first_answer (nothing ∷ os) o = first_answer os o
first_answer (line f body ∷ os) o = line f body
first_answer (gap g ∷ os) o = gap g
first_answer (refused n ∷ os) o = refused n

-- what is answered after the last nibble: finish's answer, where finish comes
abbrev pub answer_at_end : Bool → Profile → State → Outcome
answer_at_end ends p s = cond ends (finish p s).outcome nothing

-- the answer of the mark that w begins with, read after w₀ from a fresh state: the first after the mark's own eight nibbles, or else that of
-- finish, where it comes
abbrev pub answer_given : Bool → Profile → List ℕ → List ℕ → Outcome
answer_given ends p w₀ w = first_answer (drop (length w₀ + mark_nibbles) (outcomes p fresh (w₀ ++ w))) (answer_at_end ends p (run p fresh (w₀ ++ w)))

-- whether that mark is answered: the next mark's code is in w, or finish comes
abbrev pub is_answered : List ℕ → Bool → Bool
is_answered w ends = is_code (next_in (after_opener w)) || ends

-- the same of the reader that runs, fed a nibble a call, and finished; the call with k nibbles still to come is lent a buffer of room k bytes
abbrev pub reader_gives : (ℕ → ℕ) → Profile → List ℕ → List ℕ → Outcome
reader_gives room p w₀ w =
    first_answer (drop (length w₀ + mark_nibbles) (fed_outcomes room (fresh_reader p) (w₀ ++ w)))
    (finish_of (fed_reader room (fresh_reader p) (w₀ ++ w))).outcome

-- how many answers come before that of the mark that w begins with
abbrev pub answers_before : Profile → List ℕ → List ℕ → ℕ
answers_before p w₀ w = length (said (take (length w₀ + mark_nibbles) (outcomes p fresh (w₀ ++ w))))

-- the mark's answer among those of any calls, singles and runs
abbrev pub calls_give : Profile → List ℕ → List ℕ → List RunCall → Outcome
calls_give p w₀ w cs = first_answer (drop (answers_before p w₀ w) (runs_collected mark_collector p (fresh_reader p) cs)) nothing
