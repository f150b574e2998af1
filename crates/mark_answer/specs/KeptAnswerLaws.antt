-- What an answer of a mark can be, gone through once: what holds of nothing, of the refusals 1 to 9, of gaps, and of lines whose body fits and
-- which an end of line follows, holds of every answer of a mark.
use Rattle.std.specs.Prelude.{◌≡◌, Bool, List, ℕ, ◌≤◌, take}
use Rattle.std.proofs.Math.Path.{refl}
use Rattle.std.proofs.Common.{ap, ◌∙◌, arith}
use Rattle.std.proofs.Math.Bool.{true, false}
use Rattle.std.proofs.Math.Option.{Option, none, some}
use Rattle.refusal.specs.Refusal.{damaged_code, reserved_code, unfinished_line, wrong_length, bad_number, bad_body, no_end_of_line, end_without_line, bad_gap}
use Rattle.line_code.specs.declared.Kind.{Kind}
use Rattle.line_code.specs.declared.Meaning.{Meaning}
use Rattle.line_code.specs.declared.Meaning.TheVariants.{EndOfLine, Line, ReservedEC, ReservedF1}
use Rattle.line_code.specs.declared.Reading.{Reading}
use Rattle.line_code.specs.declared.Reading.TheVariants.{Says, Damaged}
use Rattle.line_code.specs.declared.Repair.{Repair}
use Rattle.line_code.specs.LineCode.{reading_of, is_end, repair_of}
use Rattle.profile.specs.declared.Profile.{Profile}
use Rattle.profile.specs.declared.Profile.TheVariants.{VV5404, VV5300}
use Rattle.profile.specs.Profile.{body_length, null_byte}
use Rattle.profile.specs.Layout.{rules, fits}
use Rattle.stream.specs.declared.Before.{Before}
use Rattle.stream.specs.declared.Before.TheVariants.{NoLine, RefusedLine, HandedOut}
use Rattle.stream.specs.declared.LineFacts.{LineFacts}
use Rattle.stream.specs.declared.GapFacts.{GapFacts}
use Rattle.stream.specs.declared.Mark.{Mark}
use Rattle.stream.specs.declared.Mark.TheVariants.{NoMark, Open}
use Rattle.stream.specs.Answers.{facts, Outcome, nothing, line, gap, refused, require, good_gap, ends_at}
use Rattle.mark_text.specs.declared.Kept.{Kept}
use Rattle.gap_answer.specs.KeptGap.{kept_gap, kept_end}
use Rattle.line_answer.specs.KeptLine.{kept_line}
use Rattle.mark_answer.specs.KeptAnswer.{kept_answer, kept_by_reading, kept_by_meaning}

module _ (P : Outcome → Type 0) (p : Profile) (body : List ℕ) (next : Option ℕ) (of_nothing : P nothing)
    (of_refused : (n : ℕ) → 1 ≤ n → n ≤ 9 → P (refused n)) (of_gap : (g : GapFacts) → P (gap g))
    (of_line : (f : LineFacts) → fits (rules p f.kind) (take (body_length p) body) ≡ true → ends_at next ≡ true → P (line f (take (body_length p) body))) where
  required : (t : Bool) (n : ℕ) (o : Outcome) → 1 ≤ n → n ≤ 9 → (t ≡ true → P o) → P (require t n o)
  unfolding require
  required true n o a b h = h refl
  required false n o a b h = of_refused n a b

  by_line : (k : Kind) (r : Repair) (len : ℕ) (t : Kept) (c : ℕ) → next ≡ some c → P (kept_line p k r len t body (reading_of c))
  by_line k r len t c e =
      required _ wrong_length _ (omega arith) (omega arith) λ _.
      required _ bad_number _ (omega arith) (omega arith) λ _.
      required _ bad_body _ (omega arith) (omega arith) λ f.
      required (is_end (reading_of c)) no_end_of_line _ (omega arith) (omega arith) λ d.
      of_line (facts k _ r (repair_of (reading_of c))) f (ap ends_at e ∙ d)

  good : (n a b : ℕ) → P (good_gap n a b)
  unfolding good_gap
  good n a b = of_gap _

  by_gap : (q : Profile) (k : Kind) (n len : ℕ) (t : Kept) → P (kept_gap q k n len t)
  by_gap VV5404 k n len t = required _ bad_gap _ (omega arith) (omega arith) (λ _. good n null_byte null_byte)
  by_gap VV5300 k n len t = required _ bad_gap _ (omega arith) (omega arith) (λ _. good n t.first t.second)

  by_end : (before : Before) (n len : ℕ) (t : Kept) → P (kept_end p before n len t)
  by_end NoLine n len t = of_refused end_without_line (omega arith) (omega arith)
  by_end (RefusedLine k) n len t = by_gap p k n len t
  by_end (HandedOut k) n len t = by_gap p k n len t

  by_meaning_lem : (before : Before) (m : Meaning) (r : Repair) (len : ℕ) (t : Kept) → P (kept_by_meaning p before m r len t body next)
  by_meaning_lem before EndOfLine r len t = by_end before _ len t
  by_meaning_lem before (Line k) r len t = go next refl
    where
      go : (x : Option ℕ) → next ≡ x → P (kept_by_meaning p before (Line k) r len t body x)
      go none e = of_refused unfinished_line (omega arith) (omega arith)
      go (some c) e = by_line k r len t c e
  by_meaning_lem before ReservedEC r len t = of_refused reserved_code (omega arith) (omega arith)
  by_meaning_lem before ReservedF1 r len t = of_refused reserved_code (omega arith) (omega arith)

  by_reading_lem : (before : Before) (c : Reading) (len : ℕ) (t : Kept) → P (kept_by_reading p before c len t body next)
  by_reading_lem before (Says m r) len t = by_meaning_lem before m r len t
  by_reading_lem before Damaged len t = of_refused damaged_code (omega arith) (omega arith)

  pub kept_answers : (m : Mark) (len : ℕ) (t : Kept) → P (kept_answer p m len t body next)
  unfolding kept_answer
  kept_answers NoMark len t = of_nothing
  kept_answers (Open before code) len t = by_reading_lem before (reading_of code) len t
