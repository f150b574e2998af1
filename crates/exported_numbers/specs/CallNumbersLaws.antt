-- Laws of numbers: a judge's number stands for the judge; and an answer's number tells its parts.
use Rattle.std.specs.Prelude.{◌≡◌, refl, Bool, true, false, cond, ℕ, ◌+◌, ◌/◌, ◌%◌, ◌≤◌, ◌<◌, eqb, leb, ltb, None, Some}
use Rattle.std.proofs.Common.{sym, ap, arith, ltb-true, ltb-false, leb-true, eqb-true, lt-ltb, le-ltb, ne_eqb}
use Rattle.bits.specs.Every.{and_left, and_right}
use Rattle.exported_call.specs.LentCall.{bit_of}
use Rattle.line_code.specs.declared.Kind.{Kind}
use Rattle.line_code.specs.declared.Kind.TheVariants.{BL, BK, VL, SOF, EOF}
use Rattle.line_code.specs.LineCode.{kind_number, repair_number}
use Rattle.profile.specs.declared.Profile.TheVariants.{VV5404}
use Rattle.stream.specs.declared.GapFacts.{GapFacts}
use Rattle.stream.specs.declared.LineFacts.{LineFacts}
use Rattle.stream.specs.declared.Answer.TheVariants as answers
use Rattle.stream.specs.Answers.{either_repaired}
use Rattle.frame_layout.specs.declared.Borders.TheVariants.{On, Off}
use Rattle.frame_judge.specs.declared.Judge.{Judge}
use Rattle.frame_judge.specs.declared.Judge.TheVariants.{Waiting, Due}
use Rattle.frame_judge.specs.Frame as frame
use Rattle.exported_numbers.specs.CallNumbers.{answer_number, judge_number, judge_numbered}

-- Judges as numbers.

within_high : (from to n : ℕ) → frame.within from to n ≡ true → n ≤ to
within_high from to n h = leb-true n to (and_right (leb from n) _ h)

within_low : (from to n : ℕ) → frame.within from to n ≡ true → from ≤ n
within_low from to n h = leb-true from n (and_left _ _ h)

pub judge_small : (j : Judge) → frame.passes VV5404 j ≡ true → judge_number j < 0x30000
judge_small Waiting h = omega arith
judge_small (Due place None) h = omega (arith, within_high 1 10 place h)
judge_small (Due place (Some On)) h = omega (arith, within_high 11 303 place h)
judge_small (Due place (Some Off)) h = omega (arith, within_high 11 303 place h)

pub judge_back : (j : Judge) → frame.passes VV5404 j ≡ true → judge_numbered (judge_number j) ≡ j
unfolding judge_numbered
judge_back Waiting h = refl
judge_back (Due place None) h =
    let high = within_high 1 10 place h in
    let low = within_low 1 10 place h in
    simp (ne_eqb place 0 (λ e. omega arith), lt-ltb place 0x10000 (omega arith)) (ap (λ (k : ℕ). Due k None) (omega arith))
judge_back (Due place (Some On)) h =
    let high = within_high 11 303 place h in
    simp (ne_eqb (0x10000 + place) 0 (λ e. omega arith), le-ltb (0x10000 + place) 0x10000 (omega arith), lt-ltb (0x10000 + place) 0x20000 (omega arith))
    (ap (λ (k : ℕ). Due k (Some On)) (omega arith))
judge_back (Due place (Some Off)) h =
    let high = within_high 11 303 place h in
    simp (ne_eqb (0x20000 + place) 0 (λ e. omega arith), le-ltb (0x20000 + place) 0x10000 (omega arith), le-ltb (0x20000 + place) 0x20000 (omega arith))
    (ap (λ (k : ℕ). Due k (Some Off)) (omega arith))

-- so a judge that its own call leaves as it was has the same number, whatever the number
pub number_back : (n : ℕ) → n < 0x30000 → judge_number (judge_numbered n) ≡ n
unfolding judge_numbered
number_back n h = go (eqb n 0) (ltb n 0x10000) (ltb n 0x20000) refl refl refl
  where
    go : (a b c : Bool) → eqb n 0 ≡ a → ltb n 0x10000 ≡ b → ltb n 0x20000 ≡ c
        → judge_number (cond a Waiting (Due (n % 0x10000) (cond b None (Some (cond c On Off))))) ≡ n
    go true b c e f g = sym (eqb-true n 0 e)
    go false true c e f g = let l = ltb-true n 0x10000 f in omega arith
    go false false true e f g =
        let l = ltb-false n 0x10000 f in
        let m = ltb-true n 0x20000 g in
        omega arith
    go false false false e f g = let l = ltb-false n 0x20000 g in omega arith

-- Answers as numbers.

pub kind_small : (k : Kind) → kind_number k ≤ 5
kind_small BL = omega arith
kind_small BK = omega arith
kind_small VL = omega arith
kind_small SOF = omega arith
kind_small EOF = omega arith

bit_small : (b : Bool) → bit_of b ≤ 1
bit_small true = omega arith
bit_small false = omega arith

pub line_told : (f : LineFacts) → f.number < 0x10000 → repair_number f.start < 0x10000
    → (answer_number (answers.Line f) / 0x1000000 % 0x100 ≡ 1) × (answer_number (answers.Line f) / 0x80000 % 2 ≡ bit_of (either_repaired f))
    × (answer_number (answers.Line f) / 0x10000 % 8 ≡ kind_number f.kind) × (answer_number (answers.Line f) % 0x10000 ≡ f.number)
    × (answer_number (answers.Line f) / 0x100000000 % 0x10000 ≡ repair_number f.start) × (answer_number (answers.Line f) / 0x1000000000000 ≡ repair_number f.end)
line_told f h s =
    let k = kind_small f.kind in
    let b = bit_small (either_repaired f) in
    (omega arith, omega arith, omega arith, omega arith, omega arith, omega arith)

pub gap_told : (g : GapFacts) → g.first < 0x100 → g.second < 0x100
    → (answer_number (answers.Gap g) / 0x1000000 % 0x100 ≡ 2) × (answer_number (answers.Gap g) / 0x100000000 ≡ g.period.0)
    × (answer_number (answers.Gap g) / 0x100 % 0x100 ≡ g.first) × (answer_number (answers.Gap g) % 0x100 ≡ g.second)
gap_told g h k = (omega arith, omega arith, omega arith, omega arith)
