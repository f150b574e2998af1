-- A line among the answers to a capture. Definitions only.
use Rattle.std.specs.Prelude.{◌≡◌, true, List, ◌∷◌, ◌++◌, ℕ}
use Rattle.line_code.specs.LineCode.{kind_number}
use Rattle.profile.specs.declared.Profile.{Profile}
use Rattle.stream.specs.declared.LineFacts.{LineFacts}
use Rattle.stream.specs.declared.Answer.{Answer}
use Rattle.stream.specs.declared.Answer.TheVariants as answer
use Rattle.frame_layout.specs.declared.Borders.{Borders}
use Rattle.frame_layout.specs.FrameLayout.{due_at}

-- the line is one of the answers
abbrev pub LineAmong : LineFacts → List Answer → Type 0
LineAmong f w = (before : List Answer) × (later : List Answer) × (w ≡ before ++ (answer.Line f ∷ later))

-- one of them is a line that is due at this place of a layout
abbrev pub DueAmong : Profile → Borders → ℕ → List Answer → Type 0
DueAmong p b place w = (f : LineFacts) × (due_at p b place (kind_number f.kind) f.number ≡ true) × LineAmong f w
