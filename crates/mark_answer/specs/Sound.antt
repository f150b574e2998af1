-- What an answer of a mark can be, and one that can be read off the answer and the lent buffer. Definitions only.
use Rattle.std.specs.Prelude.{◌≡◌, true, List, ℕ, ◌≤◌}
use Rattle.profile.specs.declared.Profile.{Profile}
use Rattle.profile.specs.Layout.{rules, fits}
use Rattle.stream.specs.declared.LineFacts.{LineFacts}
use Rattle.stream.specs.declared.GapFacts.{GapFacts}
use Rattle.stream.specs.Answers.{Outcome, nothing, line, gap, refused, outcome_of, answer_for, buffer_after}

-- nothing, a line whose body fits its kind's layout, a good gap, or a refusal 1 to 9
pub data Sound (p : Profile) : Outcome → Type 0 where
  sound_nothing : Sound p nothing
  sound_line : {f : LineFacts} {body : List ℕ} → fits (rules p f.kind) body ≡ true → Sound p (line f body)
  sound_gap : {g : GapFacts} → Sound p (gap g)
  sound_refused : (n : ℕ) → 1 ≤ n → n ≤ 9 → Sound p (refused n)

-- the number of a refusal
abbrev pub refusal_of : Outcome → ℕ
refusal_of nothing = 0
refusal_of (line f body) = 0
refusal_of (gap g) = 0
refusal_of (refused n) = n

-- an outcome that can be read off the program's answer and the buffer after the call
abbrev pub Legible : Profile → List ℕ → Outcome → Type 0
Legible p buffer o = outcome_of p (answer_for o) (buffer_after o buffer) ≡ o
