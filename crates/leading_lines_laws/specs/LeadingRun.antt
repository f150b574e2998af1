-- Lines that lie at places of one layout, one after another: those before the first frame of a capture, all at once. Definitions only.
use Rattle.std.specs.Prelude.{◌≡◌, Bool, true, ◌&&◌, List, [], ◌∷◌, ℕ, suc, ◌+◌, ◌≤◌, length}
use Rattle.profile.specs.declared.Profile.{Profile}
use Rattle.frame_layout.specs.declared.Borders.{Borders}
use Rattle.frame_layout.specs.FrameLayout.{last_place, due_at}
use Rattle.frame_judge.specs.Calls.{Line}
use Rattle.leading_lines.specs.declared.LeadingLines.{LeadingLines}
use Rattle.leading_lines.specs.LeadingLines.{with_line}

-- the first line is due at this place, the second at the next, and so on
abbrev pub due_from : Profile → Borders → ℕ → List Line → Bool
due_from p b place [] = true
due_from p b place (l ∷ ls) = due_at p b place l.kind l.number && due_from p b (suc place) ls

-- a run: there is a layout, and a place at which the first line is due, the second at the next, and so on, within a frame; where a frame opened after
-- them, the last line is due at the frame's last place. No line is a run
pub record Run (p : Profile) (opened : Bool) (ls : List Line) : Type 0 where
  pub borders : Borders
  pub place : ℕ
  pub due : due_from p borders place ls ≡ true
  pub within : place + length ls ≤ last_place p + 1
  pub to_last : opened ≡ true → place + length ls ≡ last_place p + 1

-- what is kept of lines, one after another
abbrev pub leading_after : Profile → LeadingLines → List Line → LeadingLines
leading_after p s [] = s
leading_after p s (l ∷ ls) = leading_after p (with_line p s l.kind l.number) ls
