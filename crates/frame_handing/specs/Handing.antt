-- What of a capture's answers is handed to the judge (01, 'Frames of profile 0').
use Rattle.std.specs.Prelude.{Bool, cond, List, [], ◌∷◌, ◌++◌, ℕ, None, Option, Some}
use Rattle.refusal.specs.Refusal.{damaged_code, no_end_of_line}
use Rattle.line_code.specs.LineCode.{kind_number}
use Rattle.stream.specs.declared.Answer.{Answer}
use Rattle.stream.specs.declared.Answer.TheVariants as answer
use Rattle.frame_handing.specs.declared.HandedLine.{HandedLine}
use Rattle.frame_judge.specs.Frame.{within, broken_kind}
use Rattle.frame_judge.specs.Calls.{Line, line}

-- answers 1 to 7
unfoldable pub is_broken_line : ℕ → Bool
is_broken_line n = within damaged_code no_end_of_line n

-- a line's kind number and number, handed over
abbrev pub hand : ℕ → ℕ → Option HandedLine
hand k n = Some (record { kind = k; number = n })

-- each line given out, and kind 0 for each answer 1 to 7; of any other answer nothing
abbrev pub handed_over : Answer → Option HandedLine
handed_over answer.Nothing = None
handed_over (answer.Line f) = hand (kind_number f.kind) f.number
handed_over (answer.Gap g) = None
handed_over (answer.Refused r) = cond (is_broken_line r.0) (hand broken_kind 0) None

-- as a list of lines
abbrev pub as_lines : Option HandedLine → List Line
as_lines None = []
as_lines (Some l) = line l.kind l.number ∷ []

-- the line that an answer hands to the judge, if any
abbrev pub handed_lines : Answer → List Line
handed_lines a = as_lines (handed_over a)

-- a whole capture's
abbrev pub all_handed : List Answer → List Line
all_handed [] = []
all_handed (a ∷ w) = handed_lines a ++ all_handed w
