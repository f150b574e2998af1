-- The meaning of a stream (01, 'Marks and line codes'): where marks are, and what each nibble and finish bring.
use Rattle.std.specs.Prelude.{Bool, true, false, cond, List, [], ◌∷◌, ℕ, ◌+◌, ◌*◌, eqb, None, Option as Optional, Some}
use Rattle.std.proofs.Math.Option.{Option, none, some}
use Rattle.line_code.specs.LineCode.{reading_of, kind_of}
use Rattle.profile.specs.declared.Profile.{Profile}
use Rattle.stream.specs.declared.Before.{Before}
use Rattle.stream.specs.declared.Before.TheVariants.{NoLine, RefusedLine, HandedOut}
use Rattle.stream.specs.declared.Mark.{Mark}
use Rattle.stream.specs.declared.Mark.TheVariants.{NoMark, Open}
use Rattle.stream.specs.Answers.{Outcome, nothing, is_line, answer_of}
use Rattle.line_code.specs.declared.Kind.{Kind}

-- Where a mark is.

-- F F F F 0 0, newest first
abbrev pub group : List ℕ
group = 0 ∷ 0 ∷ 15 ∷ 15 ∷ 15 ∷ 15 ∷ []

-- what stands before a pattern at the newest end of a text, if it is there (both newest first)
abbrev pub strip : List ℕ → List ℕ → Option (List ℕ)
strip [] t = some t
strip (p ∷ ps) [] = none
strip (p ∷ ps) (n ∷ t) = cond (eqb p n) (strip ps t) none

-- whether the newest nibble completes a mark: its code's two nibbles, and the text before its first F
pub data Completed : Type 0 where
  not_yet : Completed
  mark : ℕ → ℕ → List ℕ → Completed

-- a mark, where its group is there
abbrev pub mark_if : ℕ → ℕ → Option (List ℕ) → Completed
mark_if x y none = not_yet
mark_if x y (some t) = mark x y t

-- a mark is complete with the second nibble after F F F F 0 0
abbrev pub detect : List ℕ → Completed
detect [] = not_yet
detect (y ∷ []) = not_yet
detect (y ∷ x ∷ t) = mark_if x y (strip group t)

-- What a nibble brings.

-- the open mark; and all nibbles since its 0 0, newest first (while no mark is open: all nibbles so far)
pub record State : Type 0 where
  pub at : Mark
  pub text : List ℕ

-- a state, and what was answered
pub record Step : Type 0 where
  pub state : State
  pub outcome : Outcome

-- a fresh reader: no mark, and no nibble
abbrev pub fresh : State
fresh = record { at = NoMark; text = [] }

-- the line kind of a mark's own code
abbrev pub kind_at : Mark → Optional Kind
kind_at NoMark = None
kind_at (Open before code) = kind_of (reading_of code)

-- what a mark is to the next one: by the line kind of its own code, and whether it was handed out as a line
abbrev pub before_by : Optional Kind → Bool → Before
before_by None handed = NoLine
before_by (Some k) true = HandedOut k
before_by (Some k) false = RefusedLine k

-- the open mark's answer, if there is one: its text, and the next mark's code or none at finish
abbrev pub answer_at : Profile → Mark → List ℕ → Option ℕ → Outcome
answer_at p NoMark t next = nothing
answer_at p (Open before code) t next = answer_of p before code t next

-- a text with its newest nibble in it: where that completes a mark, the mark before is answered, and the new one's text is its code
abbrev pub advance : Profile → Mark → List ℕ → Completed → Step
advance p m t not_yet = record { state = record { at = m; text = t }; outcome = nothing }
advance p m t (mark x y before) =
    record {
      state = record { at = Open (before_by (kind_at m) (is_line (answer_at p m before (some (16 * x + y))))) (16 * x + y); text = y ∷ x ∷ [] };
      outcome = answer_at p m before (some (16 * x + y));
    }

-- one nibble
abbrev pub step : Profile → State → ℕ → Step
step p s n = advance p s.at (n ∷ s.text) (detect (n ∷ s.text))

-- finish answers the last mark, if there is one, and leaves a fresh reader
abbrev pub finish : Profile → State → Step
finish p s = record { state = fresh; outcome = answer_at p s.at s.text none }

-- Many nibbles.

-- the state after them
abbrev pub run : Profile → State → List ℕ → State
run p s [] = s
run p s (n ∷ w) = run p (step p s n).state w

-- the answer of each
abbrev pub outcomes : Profile → State → List ℕ → List Outcome
outcomes p s [] = []
outcomes p s (n ∷ w) = (step p s n).outcome ∷ outcomes p (step p s n).state w
