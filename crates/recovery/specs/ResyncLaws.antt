-- From any state, a line's start mark leads to that mark open with its code as its text, and no line comes out meanwhile: a mark that
-- is completed on the way has a code that ends in F, which is no end of line.
use Rattle.std.specs.Prelude.{◌≡◌, refl, false, List, [], ◌∷◌, ◌++◌, ℕ, ◌+◌, ◌*◌, ◌/◌, ◌%◌}
use Rattle.std.proofs.Common.{◌∙◌, ap, sym, true≢false, arith}
use Rattle.std.proofs.Math.Option.{Option, none, some}
use Rattle.line_code.specs.LineCode.{reading_of, is_end}
use Rattle.line_code.specs.LineCodeLaws.{no_end_f}
use Rattle.profile.specs.declared.Profile.{Profile}
use Rattle.stream.specs.declared.Before.{Before}
use Rattle.stream.specs.declared.Mark.{Mark}
use Rattle.stream.specs.declared.Mark.TheVariants.{Open}
use Rattle.stream.specs.Answers.{Outcome, ends_at}
use Rattle.stream.specs.Stream.{State, group, strip, mark_if, answer_at, advance, step, run}
use Rattle.stream.specs.Written.{mark_of}
use Rattle.recovery.specs.Calls.{LineOut, line_in}
use Rattle.recovery.specs.AnswerLaws.{answer_cases}
use Rattle.recovery.specs.Resync.{state_with, opened, becomes}
use Rattle.recovery.specs.Collected.{lines}

pub byte_joined : (b : ℕ) → 16 * (b / 16) + b % 16 ≡ b
byte_joined b = omega arith

-- A mark whose next code is not end of line, or that finish answers, is no line.

-- an outcome that is no line
abbrev pub BringsNoLine : Outcome → Type 0
BringsNoLine o = line_in o ≡ []

pub no_line_lem : (p : Profile) (m : Mark) (t : List ℕ) (next : Option ℕ) → ends_at next ≡ false → BringsNoLine (answer_at p m t next)
no_line_lem p m t next h =
    answer_cases BringsNoLine refl (λ g. refl) (λ n l. refl) p m t next (λ f body l e. absurd (true≢false (sym e ∙ h)))

-- The start mark.

-- the nibbles w lead from s to a mark with the code c just open, and no line comes out
pub record Opens (p : Profile) (s : State) (w : List ℕ) (c : ℕ) : Type 0 where
  pub before : Before
  pub state : run p s w ≡ opened before c
  pub no_lines : lines p s w ≡ []

-- one more nibble in front, whose outcome is no line
one_more_lem : (p : Profile) (s : State) (n : ℕ) (w : List ℕ) (c : ℕ) → BringsNoLine (step p s n).outcome → Opens p (step p s n).state w c → Opens p s (n ∷ w) c
one_more_lem p s n w c h o = record { before = o.before; state = o.state; no_lines = ap (λ (ls : List LineOut). ls ++ lines p (step p s n).state w) h ∙ o.no_lines }

after_two : (p : Profile) (m : Mark) (t : List ℕ) (c : ℕ) → is_end (reading_of c) ≡ false
    → Opens p (state_with m (15 ∷ 15 ∷ t)) (15 ∷ 15 ∷ 0 ∷ 0 ∷ c / 16 ∷ c % 16 ∷ []) c
after_two p m t c h =
    record {
      before = becomes p m t c;
      state = ap (λ (b : ℕ). state_with (Open (becomes p m t b) b) (c % 16 ∷ c / 16 ∷ [])) (byte_joined c);
      no_lines =
          ap (λ (ls : List LineOut). ls ++ [])
          (no_line_lem p m t (some (16 * (c / 16) + c % 16)) (ap (λ (b : ℕ). is_end (reading_of b)) (byte_joined c) ∙ h));
    }

after_one : (p : Profile) (m : Mark) (t : List ℕ) (c : ℕ) → is_end (reading_of c) ≡ false
    → Opens p (state_with m (15 ∷ t)) (15 ∷ 15 ∷ 15 ∷ 0 ∷ 0 ∷ c / 16 ∷ c % 16 ∷ []) c
after_one p m t c h = one_more_lem p (state_with m (15 ∷ t)) 15 _ c (no_line_at (strip group t)) (go (strip group t))
  where
    no_line_at : (o : Option (List ℕ)) → BringsNoLine (advance p m (15 ∷ 15 ∷ t) (mark_if 15 15 o)).outcome
    no_line_at none = refl
    no_line_at (some r) = no_line_lem p m r (some 255) (no_end_f 255 refl)

    go : (o : Option (List ℕ)) → Opens p (advance p m (15 ∷ 15 ∷ t) (mark_if 15 15 o)).state (15 ∷ 15 ∷ 0 ∷ 0 ∷ c / 16 ∷ c % 16 ∷ []) c
    go none = after_two p m t c h
    go (some r) = after_two p (Open (becomes p m r 255) 255) [] c h

after_none : (p : Profile) (m : Mark) (t : List ℕ) (c : ℕ) → is_end (reading_of c) ≡ false → Opens p (state_with m t) (mark_of c) c
after_none p m [] c h = one_more_lem p (state_with m []) 15 _ c refl (after_one p m [] c h)
after_none p m (z ∷ t) c h = one_more_lem p (state_with m (z ∷ t)) 15 _ c (no_line_at (strip group t)) (go (strip group t))
  where
    no_line_at : (o : Option (List ℕ)) → BringsNoLine (advance p m (15 ∷ z ∷ t) (mark_if z 15 o)).outcome
    no_line_at none = refl
    no_line_at (some r) = no_line_lem p m r (some (16 * z + 15)) (no_end_f (16 * z + 15) (omega arith))

    go : (o : Option (List ℕ)) → Opens p (advance p m (15 ∷ z ∷ t) (mark_if z 15 o)).state (15 ∷ 15 ∷ 15 ∷ 0 ∷ 0 ∷ c / 16 ∷ c % 16 ∷ []) c
    go none = after_one p m (z ∷ t) c h
    go (some r) = after_one p (Open (becomes p m r (16 * z + 15)) (16 * z + 15)) (z ∷ []) c h

-- from any state, F F F F 0 0 and a code that is not end of line lead to that mark open, its code all of its text; and no line comes out
pub resync : (p : Profile) (s : State) (c : ℕ) → is_end (reading_of c) ≡ false → Opens p s (mark_of c) c
resync p s c h = after_none p s.at s.text c h
