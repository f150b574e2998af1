-- A frame is covered: at each place up to the EOF line's, in one layout, a line that is due there was handed out somewhere. Definitions only.
use Rattle.std.specs.Prelude.{◌≡◌, Bool, true, false, List, [], ◌∷◌, ℕ, ◌≤◌}
use Rattle.counts.specs.CountsLaws.{some}
use Rattle.line_code.specs.LineCode.{kind_number}
use Rattle.profile.specs.declared.Profile.{Profile}
use Rattle.stream.specs.declared.Answer.{Answer}
use Rattle.stream.specs.declared.Answer.TheVariants as answer
use Rattle.frame_layout.specs.declared.Borders.{Borders}
use Rattle.frame_layout.specs.FrameLayout.{end_place, due_at}
use Rattle.coverage.specs.Coverage.{with_answer}

-- an answer is a line that is due at this place of a layout
abbrev pub is_due_line : Profile → Borders → ℕ → Answer → Bool
is_due_line p b place answer.Nothing = false
is_due_line p b place (answer.Line f) = due_at p b place (kind_number f.kind) f.number
is_due_line p b place (answer.Gap g) = false
is_due_line p b place (answer.Refused n) = false

-- in a layout: at each place up to the EOF line's such a line was handed out
abbrev pub CoveredIn : Profile → Borders → List Answer → Type 0
CoveredIn p b w = (place : ℕ) → place ≤ end_place p b → some (is_due_line p b place) w ≡ true

-- in some layout
abbrev pub Covered : Profile → List Answer → Type 0
Covered p w = (b : Borders) × CoveredIn p b w

-- the table after some answers
abbrev pub came_after : List ℕ → List Answer → List ℕ
came_after came [] = came
came_after came (a ∷ w) = came_after (with_answer came a) w
