-- The cases of a mark's answer, gone through once: what holds of each case holds of the answer of every mark and of every step.
use Rattle.std.specs.Prelude.{◌≡◌, Bool, List, [], ◌∷◌, ℕ, ◌+◌, ◌*◌, ◌<◌, eqb, length}
use Rattle.std.proofs.Math.Path.{refl}
use Rattle.std.proofs.Math.Bool.{true, false}
use Rattle.std.proofs.Math.Option.{Option, none, some}
use Rattle.std.proofs.Common.{arith, eqb-true}
use Rattle.refusal.specs.Refusal.{damaged_code, reserved_code, unfinished_line, wrong_length, bad_number, bad_body, no_end_of_line, end_without_line, bad_gap, not_a_nibble}
use Rattle.line_code.specs.declared.Kind.{Kind}
use Rattle.line_code.specs.declared.Meaning.{Meaning}
use Rattle.line_code.specs.declared.Meaning.TheVariants.{EndOfLine, Line, ReservedEC, ReservedF1}
use Rattle.line_code.specs.declared.Reading.{Reading}
use Rattle.line_code.specs.declared.Reading.TheVariants.{Says, Damaged}
use Rattle.line_code.specs.declared.Repair.{Repair}
use Rattle.line_code.specs.LineCode.{reading_of, is_end}
use Rattle.profile.specs.declared.Profile.{Profile}
use Rattle.profile.specs.declared.Profile.TheVariants.{VV5404, VV5300}
use Rattle.profile.specs.Profile.{body_length}
use Rattle.stream.specs.declared.Before.{Before}
use Rattle.stream.specs.declared.Before.TheVariants.{NoLine, RefusedLine, HandedOut}
use Rattle.stream.specs.declared.LineFacts.{LineFacts}
use Rattle.stream.specs.declared.GapFacts.{GapFacts}
use Rattle.stream.specs.declared.Mark.{Mark}
use Rattle.stream.specs.declared.Mark.TheVariants.{NoMark, Open}
use Rattle.stream.specs.Answers.{Outcome, nothing, line, gap, refused, require, bytes_onto, line_from, line_answer, turned, after_code, good_gap, two_bytes_then_f, gap_from, gap_answer, ends_at, by_meaning, by_reading, answer_of}
use Rattle.stream.specs.Stream.{State, Completed, not_yet, mark, detect, answer_at, advance, step}

-- P holds of a line, whose body is as long as the profile says, and whose next code is end of line
abbrev pub IfLine : (Outcome → Type 0) → Profile → Option ℕ → Type 0
IfLine P p next = (f : LineFacts) (body : List ℕ) → length body ≡ body_length p → ends_at next ≡ true → P (line f body)

-- P holds of a gap, and of a refusal, which is below 10
module _ (P : Outcome → Type 0) (if_gap : (g : GapFacts) → P (gap g)) (if_refused : (n : ℕ) → n < not_a_nibble → P (refused n)) where
  require_cases : (t : Bool) (n : ℕ) (o : Outcome) → n < not_a_nibble → (t ≡ true → P o) → P (require t n o)
  unfolding require
  require_cases true n o h f = f refl
  require_cases false n o h f = if_refused n h

  good_case : (n a b : ℕ) → P (good_gap n a b)
  unfolding good_gap
  good_case n a b = if_gap _

  two_cases : (k : Kind) (n : ℕ) (w : List ℕ) → P (two_bytes_then_f k n w)
  two_cases k n [] = if_refused bad_gap (omega arith)
  two_cases k n (h ∷ []) = if_refused bad_gap (omega arith)
  two_cases k n (h ∷ l ∷ []) = if_refused bad_gap (omega arith)
  two_cases k n (h ∷ l ∷ h₂ ∷ []) = if_refused bad_gap (omega arith)
  two_cases k n (h ∷ l ∷ h₂ ∷ l₂ ∷ w) = require_cases _ bad_gap _ (omega arith) (λ _. good_case n _ _)

  by_gap : (p : Profile) (k : Kind) (n : ℕ) (w : List ℕ) → P (gap_from p k n w)
  by_gap VV5404 k n w = require_cases _ bad_gap _ (omega arith) (λ _. good_case n _ _)
  by_gap VV5300 k n w = two_cases k n w

  gap_cases : (p : Profile) (before : Before) (n : ℕ) (t : List ℕ) → P (gap_answer p before n t)
  gap_cases p NoLine n t = if_refused end_without_line (omega arith)
  gap_cases p (RefusedLine k) n t = by_gap p k n (after_code (turned t []))
  gap_cases p (HandedOut k) n t = by_gap p k n (after_code (turned t []))

  from_cases : (p : Profile) (k : Kind) (r : Repair) (bytes : Option (List ℕ)) (next : Reading)
      → ((g : LineFacts) (body : List ℕ) → length body ≡ body_length p → is_end next ≡ true → P (line g body)) → P (line_from p k r bytes next)
  from_cases p k r none next f = if_refused wrong_length (omega arith)
  from_cases p k r (some []) next f = if_refused wrong_length (omega arith)
  from_cases p k r (some (c ∷ [])) next f = if_refused wrong_length (omega arith)
  from_cases p k r (some (c ∷ a ∷ [])) next f = if_refused wrong_length (omega arith)
  from_cases p k r (some (c ∷ a ∷ b ∷ body)) next f =
      require_cases (eqb (length body) (body_length p)) wrong_length _ (omega arith) λ h.
      require_cases _ bad_number _ (omega arith) λ _.
      require_cases _ bad_body _ (omega arith) λ _.
      require_cases (is_end next) no_end_of_line _ (omega arith) λ e.
      f _ body (eqb-true (length body) (body_length p) h) e

  line_cases : (p : Profile) (k : Kind) (r : Repair) (t : List ℕ) (next : Option ℕ) → IfLine P p next → P (line_answer p k r t next)
  line_cases p k r t none f = if_refused unfinished_line (omega arith)
  line_cases p k r t (some c) f = from_cases p k r (bytes_onto t []) (reading_of c) f

  meaning_cases : (p : Profile) (before : Before) (m : Meaning) (r : Repair) (t : List ℕ) (next : Option ℕ) → IfLine P p next → P (by_meaning p before m r t next)
  meaning_cases p before EndOfLine r t next f = gap_cases p before _ t
  meaning_cases p before (Line k) r t next f = line_cases p k r t next f
  meaning_cases p before ReservedEC r t next f = if_refused reserved_code (omega arith)
  meaning_cases p before ReservedF1 r t next f = if_refused reserved_code (omega arith)

  reading_cases : (p : Profile) (before : Before) (c : Reading) (t : List ℕ) (next : Option ℕ) → IfLine P p next → P (by_reading p before c t next)
  reading_cases p before (Says m r) t next f = meaning_cases p before m r t next f
  reading_cases p before Damaged t next f = if_refused damaged_code (omega arith)

  pub mark_cases : (p : Profile) (before : Before) (c : ℕ) (t : List ℕ) (next : Option ℕ) → IfLine P p next → P (answer_of p before c t next)
  unfolding answer_of
  mark_cases p before c t next f = reading_cases p before (reading_of c) t next f

-- and of nothing
module _ (P : Outcome → Type 0) (if_nothing : P nothing) (if_gap : (g : GapFacts) → P (gap g)) (if_refused : (n : ℕ) → n < not_a_nibble → P (refused n)) where
  pub answer_cases : (p : Profile) (m : Mark) (t : List ℕ) (next : Option ℕ) → IfLine P p next → P (answer_at p m t next)
  answer_cases p NoMark t next f = if_nothing
  answer_cases p (Open before c) t next f = mark_cases P if_gap if_refused p before c t next f

  pub step_cases : (p : Profile) (s : State) (n : ℕ) → ((f : LineFacts) (body : List ℕ) → length body ≡ body_length p → P (line f body)) → P (step p s n).outcome
  step_cases p s n f = go (detect (n ∷ s.text))
    where
      go : (d : Completed) → P (advance p s.at (n ∷ s.text) d).outcome
      go not_yet = if_nothing
      go (mark x y before) = answer_cases p s.at before (some (16 * x + y)) (λ g body e _. f g body e)
