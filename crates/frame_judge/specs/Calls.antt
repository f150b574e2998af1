-- Calls to the judge in a row, and the lines of a whole frame.
use Rattle.std.specs.Prelude.{◌≡◌, Bool, true, false, ◌&&◌, ◌||◌, not, cond, List, [], ◌∷◌, ◌++◌, ℕ, suc, ◌+◌, eqb, leb, length}
use Rattle.refusal.specs.Refusal.{bad_kind, number_too_large}
use Rattle.line_code.specs.declared.Kind.{Kind}
use Rattle.line_code.specs.LineCode.{kind_number}
use Rattle.line_number.specs.LineNumber.{greatest}
use Rattle.profile.specs.declared.Profile.{Profile}
use Rattle.frame_layout.specs.declared.Borders.{Borders}
use Rattle.frame_judge.specs.declared.Judge.{Judge}
use Rattle.frame_judge.specs.declared.Ruling.{Ruling}
use Rattle.frame_judge.specs.declared.Ruling.TheVariants as ruling
use Rattle.frame_judge.specs.declared.Judged.{Judged}
use Rattle.frame_layout.specs.FrameLayout.{layout, kinds_of, last_place, due_at}
use Rattle.frame_judge.specs.Frame.{judge_of, breaks_frame}

-- what is handed to the judge
pub record Line : Type 0 where
  pub kind : ℕ
  pub number : ℕ

-- a line from its kind's number and its own
abbrev pub line : ℕ → ℕ → Line
line k n = record { kind = k; number = n }

-- one call
abbrev pub called : Profile → Judge → Line → Judged
called p j l = judge_of p j l.kind l.number

-- the judge after some calls, and what it answered to each
abbrev pub after : Profile → Judge → List Line → Judge
after p j [] = j
after p j (l ∷ ls) = after p (called p j l).judge ls

-- the rulings on lines one after another
abbrev pub rulings : Profile → Judge → List Line → List Ruling
rulings p j [] = []
rulings p j (l ∷ ls) = (called p j l).ruling ∷ rulings p (called p j l).judge ls

-- a ruling that is Complete; one that breaks a frame
abbrev pub is_complete : Ruling → Bool
is_complete ruling.Waiting = false
is_complete ruling.Going = false
is_complete ruling.Complete = true
is_complete (ruling.Refused r) = false

-- a ruling that breaks a frame
abbrev pub is_break : Ruling → Bool
is_break ruling.Waiting = false
is_break ruling.Going = false
is_break ruling.Complete = false
is_break (ruling.Refused r) = breaks_frame r.0

-- an accepted line is one that is not refused 13 or 14: those change nothing (and 11 comes from no judge that calls reach)
abbrev pub accepts : Ruling → Bool
accepts ruling.Waiting = true
accepts ruling.Going = true
accepts ruling.Complete = true
accepts (ruling.Refused r) = not (eqb r.0 bad_kind || eqb r.0 number_too_large)

-- a line, where the judge takes it into a frame
abbrev pub accepted_one : Profile → Judge → Line → List Line
accepted_one p j l = cond (accepts (called p j l).ruling) (l ∷ []) []

-- the lines that the judge takes into frames
abbrev pub accepted : Profile → Judge → List Line → List Line
accepted p j [] = []
accepted p j (l ∷ ls) = accepted_one p j l ++ accepted p (called p j l).judge ls

-- a line as laid out at a place: due there, with a number not above 4095
abbrev pub is_laid_out_at : Profile → Borders → ℕ → Line → Bool
is_laid_out_at p b place l = due_at p b place l.kind l.number && leb l.number greatest

-- lines as laid out from a place on
abbrev pub laid_from : Profile → Borders → ℕ → List Line → Bool
laid_from p b place [] = true
laid_from p b place (l ∷ ls) = is_laid_out_at p b place l && laid_from p b (suc place) ls

-- the first lines of a frame, so many
abbrev pub FirstLines : Profile → Borders → ℕ → List Line → Type 0
FirstLines p b n ls = (length ls ≡ n) × (laid_from p b 0 ls ≡ true)

-- the lines of a whole frame
abbrev pub IsFrame : Profile → Borders → List Line → Type 0
IsFrame p b ls = FirstLines p b (last_place p + 1) ls

-- lines of these kinds, numbered on from n
abbrev pub numbered_from : ℕ → List Kind → List Line
numbered_from n [] = []
numbered_from n (k ∷ ks) = line (kind_number k) n ∷ numbered_from (n + 1) ks

-- a frame whose numbers count on to its last line, as the papers' figures draw it
abbrev pub frame_lines : Profile → Borders → List Line
frame_lines p b = numbered_from 0 (kinds_of (layout p b))
