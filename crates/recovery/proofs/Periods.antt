-- The period that a good gap carries is the one by places (02, A7). The meaning keeps no place: it adds the fixed length of a line that is
-- handed out to the length of the end mark's text. Both are the same.
use Rattle.std.specs.Prelude.{◌≡◌, Bool, false, ℕ, suc, ◌+◌, ◌-◌, ◌*◌, ◌/◌, ◌%◌, ◌≤◌, min, length, replicate, None, Option as Optional, Some}
use Rattle.std.proofs.Math.Path.{refl, ap, sym}
use Rattle.std.proofs.Common.{◌∙◌, subst, true≢false, arith, length-append, eqb-true}
use Rattle.std.proofs.Math.Bool.{true, cond}
use mathlib.Core.List.{List, [], ◌∷◌, ◌++◌}
use Rattle.std.proofs.Math.Option.{Option, none, some}
use Rattle.std.proofs.lemmas.List.{length-replicate}
use Rattle.refusal.specs.Refusal.{wrong_length, bad_number, bad_body, no_end_of_line, bad_gap}
use Rattle.period.specs.Period.{most_nibbles, rate_of}
use Rattle.line_code.specs.declared.Kind.{Kind}
use Rattle.line_code.specs.declared.Meaning.{Meaning}
use Rattle.line_code.specs.declared.Meaning.TheVariants.{EndOfLine, Line, ReservedEC, ReservedF1}
use Rattle.line_code.specs.declared.Reading.{Reading}
use Rattle.line_code.specs.declared.Reading.TheVariants.{Says, Damaged}
use Rattle.line_code.specs.declared.Repair.{Repair}
use Rattle.line_code.specs.LineCode.{kind_meant, reading_of, kind_of}
use Rattle.profile.specs.declared.Profile.{Profile}
use Rattle.profile.specs.declared.Profile.TheVariants.{VV5404, VV5300}
use Rattle.line_number.specs.LineNumber.{number_byte}
use Rattle.profile.specs.Profile.{body_length, null_byte}
use Rattle.stream.specs.declared.Before.{Before}
use Rattle.stream.specs.declared.Before.TheVariants.{NoLine, RefusedLine, HandedOut}
use Rattle.stream.specs.declared.GapFacts.{GapFacts}
use Rattle.stream.specs.declared.Mark.{Mark}
use Rattle.stream.specs.declared.Mark.TheVariants.{NoMark, Open}
use Rattle.stream.specs.Answers.{Outcome, nothing, line, gap, refused, is_line, require, bytes_onto, line_from, good_gap, line_nibbles, group_nibbles, period_of, turned, after_code, gap_from, by_meaning, by_reading, answer_of}
use Rattle.stream.proofs.TextLengthLaws.{no_line_gap, line_length}
use Rattle.stream.specs.Stream.{State, fresh, group, Completed, not_yet, mark, detect, before_by, answer_at, advance, step, finish, run}
use Rattle.stream.specs.Written.{Sent, Writable, content, end_mark, tail, written}
use Rattle.stream.specs.NibblesLaws.{nibbles_length}
use Rattle.recovery.specs.Calls.{gap_as_sent, mark_nibbles}
use Rattle.recovery.specs.MarkPlaces.{Noted, noted, noted_from, marks_of, period_by}
use Rattle.recovery.specs.ReadBackLaws.{body_long}
use Rattle.recovery.specs.Marks.{onto, is_mark, Since, all_taken, since_group}
use Rattle.recovery.specs.MarksLaws.{kept_completes, kept_step, detected}

-- A gap's period is the one that its mark has for it.

-- of a gap, P holds
abbrev OfGap : (GapFacts → Type 0) → Outcome → Type 0
OfGap P nothing = Unit {0}
OfGap P (line f body) = Unit {0}
OfGap P (gap g) = P g
OfGap P (refused n) = Unit {0}

abbrev PeriodIs : ℕ → GapFacts → Type 0
PeriodIs n g = g.period.0 ≡ n

require_gap : (t : Bool) (m n a b : ℕ) → OfGap (PeriodIs n) (require t m (good_gap n a b))
unfolding require good_gap
require_gap true m n a b = refl
require_gap false m n a b = tt

gap_period : (p : Profile) (k : Kind) (n : ℕ) (w : List ℕ) → OfGap (PeriodIs n) (gap_from p k n w)
gap_period VV5404 k n w = require_gap _ bad_gap n _ _
gap_period VV5300 k n [] = tt
gap_period VV5300 k n (x ∷ []) = tt
gap_period VV5300 k n (x ∷ y ∷ []) = tt
gap_period VV5300 k n (x ∷ y ∷ z ∷ []) = tt
gap_period VV5300 k n (x ∷ y ∷ z ∷ u ∷ w) = require_gap _ bad_gap n _ _

require_none : (P : GapFacts → Type 0) (t : Bool) (n : ℕ) (o : Outcome) → OfGap P o → OfGap P (require t n o)
unfolding require
require_none P true n o h = h
require_none P false n o h = tt

from_period : (p : Profile) (k : Kind) (r : Repair) (bytes : Option (List ℕ)) (next : Reading) (P : GapFacts → Type 0) → OfGap P (line_from p k r bytes next)
from_period p k r none next P = tt
from_period p k r (some []) next P = tt
from_period p k r (some (c ∷ [])) next P = tt
from_period p k r (some (c ∷ a ∷ [])) next P = tt
from_period p k r (some (c ∷ a ∷ b ∷ body)) next P =
    require_none P _ wrong_length _ (require_none P _ bad_number _ (require_none P _ bad_body _ (require_none P _ no_end_of_line _ tt)))

meaning_period : (p : Profile) (before : Before) (m : Meaning) (r : Repair) (t : List ℕ) (next : Option ℕ)
    → OfGap (PeriodIs (period_of p before (length t) next)) (by_meaning p before m r t next)
meaning_period p NoLine EndOfLine r t next = tt
meaning_period p (RefusedLine k) EndOfLine r t next = gap_period p k _ (after_code (turned t []))
meaning_period p (HandedOut k) EndOfLine r t next = gap_period p k _ (after_code (turned t []))
meaning_period p before (Line k) r t none = tt
meaning_period p before (Line k) r t (some next) = from_period p k r (bytes_onto t []) (reading_of next) _
meaning_period p before ReservedEC r t next = tt
meaning_period p before ReservedF1 r t next = tt

answer_period : (p : Profile) (before : Before) (code : ℕ) (t : List ℕ) (next : Option ℕ)
    → OfGap (PeriodIs (period_of p before (length t) next)) (answer_of p before code t next)
unfolding answer_of
answer_period p before code t next = go (reading_of code)
  where
    go : (c : Reading) → OfGap (PeriodIs (period_of p before (length t) next)) (by_reading p before c t next)
    go (Says m r) = meaning_period p before m r t next
    go Damaged = tt

-- The open mark among the marks noted.

-- the mark before the open one was handed out as a line exactly if the open one brought a line; and then its first F stands a line's
-- length further back
pub data Behind (p : Profile) : Before → Noted → List Noted → Type 0 where
  not_handed : {b : Before} {m : Noted} {ms : List Noted} → is_line m.told ≡ false
      → ((len : ℕ) (next : Option ℕ) → period_of p b len next ≡ 0) → Behind p b m ms
  handed : {k : Kind} {m l : Noted} {ms : List Noted} → is_line m.told ≡ true → m.place ≡ l.place + (group_nibbles + line_nibbles p)
      → Behind p (HandedOut k) m (l ∷ ms)

-- the open mark is the newest noted; its text is what follows its F F F F 0 0
pub data Stands (p : Profile) : Mark → List ℕ → List ℕ → List Noted → Type 0 where
  no_mark : {t all : List ℕ} → Stands p NoMark t all []
  open_mark : {before : Before} {code : ℕ} {t all : List ℕ} {m : Noted} {ms : List Noted}
      → length all ≡ m.place + group_nibbles + length t → Behind p before m ms → Stands p (Open before code) t all (m ∷ ms)

-- a mark that is handed out has a line kind
data LineLike : Optional Kind → Type 0 where
  line_like : {k : Kind} → LineLike (Some k)

kind_meaning : (p : Profile) (before : Before) (m : Meaning) (r : Repair) (t : List ℕ) (next : Option ℕ)
    → is_line (by_meaning p before m r t next) ≡ true → LineLike (kind_meant m)
kind_meaning p NoLine EndOfLine r t next h = absurd (true≢false (sym h))
kind_meaning p (RefusedLine k) EndOfLine r t next h = absurd (no_line_gap p k _ (after_code (turned t [])) h)
kind_meaning p (HandedOut k) EndOfLine r t next h = absurd (no_line_gap p k _ (after_code (turned t [])) h)
kind_meaning p before (Line k) r t next h = line_like
kind_meaning p before ReservedEC r t next h = absurd (true≢false (sym h))
kind_meaning p before ReservedF1 r t next h = absurd (true≢false (sym h))

line_kind : (p : Profile) (before : Before) (code : ℕ) (t : List ℕ) (next : Option ℕ)
    → is_line (answer_of p before code t next) ≡ true → LineLike (kind_of (reading_of code))
unfolding answer_of
line_kind p before code t next h = go (reading_of code) h
  where
    go : (c : Reading) → is_line (by_reading p before c t next) ≡ true → LineLike (kind_of c)
    go (Says m r) h = kind_meaning p before m r t next h
    go Damaged h = absurd (true≢false (sym h))

since_length : {t all : List ℕ} → Since t all → length t ≤ length all
since_length all_taken = omega arith
since_length {t} (since_group older h) = omega (arith, length-append t (group ++ older))

module _ (p : Profile) where
  no_period : (k : Optional Kind) (len : ℕ) (next : Option ℕ) → period_of p (before_by k false) len next ≡ 0
  unfolding period_of
  no_period None len next = refl
  no_period (Some k) len next = refl

  -- what the open mark is to the next one, by whether it is handed out
  behind_handed : (k : Optional Kind) → LineLike k → (c l : Noted) (ms : List Noted) → is_line c.told ≡ true
      → c.place ≡ l.place + (group_nibbles + line_nibbles p) → Behind p (before_by k true) c (l ∷ ms)
  behind_handed None like c l ms h e = elim like [ ]
  behind_handed (Some k) line_like c l ms h e = handed h e

  behind_next : (before : Before) (code : ℕ) (tb : List ℕ) (next : ℕ) (c l : Noted) (ms : List Noted)
      → c.told ≡ answer_of p before code tb (some next) → c.place ≡ l.place + group_nibbles + length tb → (b : Bool) → is_line (answer_of p before code tb (some next)) ≡ b
      → Behind p (before_by (kind_of (reading_of code)) b) c (l ∷ ms)
  behind_next before code tb next c l ms e f true h =
      behind_handed (kind_of (reading_of code)) (line_kind p before code tb (some next) h) c l ms (ap is_line e ∙ h)
      (omega (arith, f, line_length p before code tb next h))
  behind_next before code tb next c l ms e f false h = not_handed (ap is_line e ∙ h) (no_period (kind_of (reading_of code)))

  -- the newest mark's period, by places and by the meaning
  by_places : (before : Before) (c l : Noted) (ms : List Noted) (len next : ℕ) → Behind p before l ms → c.place ≡ l.place + group_nibbles + len
      → period_of p before len (some next) ≡ period_by (c ∷ l ∷ ms)
  unfolding period_of
  by_places before c l [] len next (not_handed h z) e = z len (some next)
  by_places before c l (k ∷ ms) len next (not_handed h z) e =
      z len (some next) ∙ sym (ap (λ (b : Bool). cond b (min most_nibbles (c.place - k.place)) 0) h)
  by_places (HandedOut x) c l (k ∷ ms) len next (handed h f) e = held len next h f e
    where
      held : (len next : ℕ) → is_line l.told ≡ true → l.place ≡ k.place + (group_nibbles + line_nibbles p) → c.place ≡ l.place + group_nibbles + len
          → period_of p (HandedOut x) len (some next) ≡ period_by (c ∷ l ∷ k ∷ ms)
      held len next h f e =
          let z : group_nibbles + line_nibbles p + group_nibbles + len ≡ c.place - k.place = omega (arith, f, e) in
          ap (min most_nibbles) z ∙ sym (ap (λ (b : Bool). cond b (min most_nibbles (c.place - k.place)) 0) h)

  -- One nibble.

  abbrev newest : List ℕ → ℕ → Outcome → Noted
  newest all n o = record { place = length (n ∷ all) - mark_nibbles; told = o }

  -- a nibble that completes a mark, and one that does not
  abbrev noted_as : Bool → List ℕ → List Noted → ℕ → Outcome → List Noted
  noted_as b all ms n o = cond b (newest all n o ∷ ms) ms

  record Went (m : Mark) (t all : List ℕ) (ms : List Noted) (n : ℕ) (d : Completed) : Type 0 where
    stands : Stands p (advance p m (n ∷ t) d).state.at (advance p m (n ∷ t) d).state.text (n ∷ all) (noted_as (is_mark d) all ms n (advance p m (n ∷ t) d).outcome)
    period : OfGap (PeriodIs (period_by (noted_as (is_mark d) all ms n (advance p m (n ∷ t) d).outcome))) (advance p m (n ∷ t) d).outcome

  went : (m : Mark) (t all : List ℕ) (ms : List Noted) → Stands p m t all ms → length t ≤ length all → (n : ℕ) (d : Completed) → detect (n ∷ t) ≡ d → Went m t all ms n d
  went NoMark t all (l ∷ ms) stood h n d e = elim stood [ ]
  went (Open before code) t all [] stood h n d e = elim stood [ ]
  went NoMark t all [] no_mark h n not_yet e = record { stands = no_mark; period = tt }
  went (Open before code) t all (l ∷ ms) (open_mark f b) h n not_yet e = record { stands = open_mark {t = n ∷ t} {all = n ∷ all} {m = l} (omega (arith, f)) b; period = tt }
  went NoMark t all [] no_mark h n (mark x y tb) e =
      let long : suc (length t) ≡ 8 + length tb = ap length (detected (n ∷ t) x y tb e) ∙ omega arith in
      record { stands = open_mark {t = y ∷ x ∷ []} {all = n ∷ all} {m = newest all n nothing} (omega (arith, long)) (not_handed refl (no_period None)); period = tt }
  went (Open before code) t all (l ∷ ms) (open_mark f b) h n (mark x y tb) e =
      let long : suc (length t) ≡ 8 + length tb = ap length (detected (n ∷ t) x y tb e) ∙ omega arith in
      let next : ℕ = 16 * x + y in
      let o = answer_of p before code tb (some next) in
      let c = newest all n o in
      let place : c.place ≡ l.place + group_nibbles + length tb = omega (arith, f, long) in
      record {
        stands = open_mark {t = y ∷ x ∷ []} {all = n ∷ all} {m = c} (omega (arith, long)) (behind_next before code tb next c l ms refl place (is_line o) refl);
        period = subst (λ (k : ℕ). OfGap (PeriodIs k) o) (by_places before c l ms (length tb) next b place) (answer_period p before code tb (some next));
      }

  -- Many nibbles.

  pub stands_all : (s : State) (all : List ℕ) (ms : List Noted) → Stands p s.at s.text all ms → Since s.text all → (w : List ℕ)
      → (Stands p (run p s w).at (run p s w).text (onto all w) (noted_from p s all ms w)) × Since (run p s w).text (onto all w)
  stands_all s all ms h g [] = (h, g)
  stands_all s all ms h g (n ∷ w) =
      let d = detect (n ∷ s.text) in
      let k = went s.at s.text all ms h (since_length g) n d refl in
      stands_all (step p s n).state (n ∷ all) (noted all ms n (step p s n).outcome)
      (subst (λ (b : Bool). Stands p (step p s n).state.at (step p s n).state.text (n ∷ all) (noted_as b all ms n (step p s n).outcome)) (kept_completes s.text all g n) k.stands)
      (kept_step p s.at s.text all n d refl g) w

noted_last : (p : Profile) (s : State) (all : List ℕ) (ms : List Noted) (w : List ℕ) (n : ℕ)
    → noted_from p s all ms (w ++ (n ∷ [])) ≡ noted (onto all w) (noted_from p s all ms w) n (step p (run p s w) n).outcome
noted_last p s all ms [] n = refl
noted_last p s all ms (x ∷ w) n = noted_last p (step p s x).state (x ∷ all) (noted all ms x (step p s x).outcome) w n

-- The law: whatever nibbles w are taken from a fresh reader, where the next nibble n brings a good gap, that carries the period by places of
-- the marks among all of them.
pub periods_are_places : (p : Profile) (w : List ℕ) (n : ℕ) (g : GapFacts) → (step p (run p fresh w) n).outcome ≡ gap g
    → g.period.0 ≡ period_by (marks_of p (w ++ (n ∷ [])))
periods_are_places p w n g e =
    let s = run p fresh w in
    let k = stands_all p fresh [] [] no_mark all_taken w in
    let d = detect (n ∷ s.text) in
    let ms = marks_of p w in
    let r : OfGap (PeriodIs (period_by (noted (onto [] w) ms n (step p s n).outcome))) (step p s n).outcome =
    subst (λ (b : Bool). OfGap (PeriodIs (period_by (noted_as p b (onto [] w) ms n (step p s n).outcome))) (step p s n).outcome) (kept_completes s.text (onto [] w) k.1 n)
    (went p s.at s.text (onto [] w) ms k.0 (since_length k.1) n d refl).period in
    subst (λ (o : Outcome). OfGap (PeriodIs (period_by (noted (onto [] w) ms n (step p s n).outcome))) o) e r
    ∙ ap period_by (sym (noted_last p fresh [] [] w n))

-- a gap that finish closes carries 0
pub finish_period : (p : Profile) (s : State) (g : GapFacts) → (finish p s).outcome ≡ gap g → g.period.0 ≡ 0
unfolding period_of
finish_period p s g e = go s.at e
  where
    zero_last : (before : Before) (len : ℕ) → period_of p before len none ≡ 0
    zero_last NoLine len = refl
    zero_last (RefusedLine k) len = refl
    zero_last (HandedOut k) len = refl

    go : (m : Mark) → answer_at p m s.text none ≡ gap g → g.period.0 ≡ 0
    go NoMark h = cc
    go (Open before code) h =
        subst (λ (o : Outcome). OfGap (PeriodIs (period_of p before (length s.text) none)) o) h (answer_period p before code s.text none)
        ∙ zero_last before (length s.text)

-- Periods as sent: 736 and twice the null bytes in nibbles, or 360 (01, the writer's room).
pub written_nibbles : (p : Profile) (s : Sent) → Writable p s → length (written s) ≡ 2 * body_length p + 24 + 2 * s.nulls
written_nibbles p s g =
    omega (
      arith,
      length-append (content s) (end_mark ++ tail s),
      nibbles_length (number_byte (s.number / 64) ∷ number_byte (s.number % 64) ∷ s.body),
      nibbles_length (s.gap_one ∷ s.gap_two ∷ replicate s.nulls null_byte),
      length-replicate {A = ℕ} s.nulls null_byte,
      eqb-true (length s.body) (body_length p) (body_long p s g),
    )

-- 25 null bytes after a profile 0 line are named 30 frames a second, 103 are named 25
pub thirty : (s : Sent) → Writable VV5404 s → s.nulls ≡ 25 → rate_of (gap_as_sent s).period ≡ some 30
unfolding rate_of
thirty s g e = let n : length (written s) ≡ 786 = omega (arith, e, written_nibbles VV5404 s g) in ap (λ (k : ℕ). rate_of (record { 0 = k })) n

pub twenty_five : (s : Sent) → Writable VV5404 s → s.nulls ≡ 103 → rate_of (gap_as_sent s).period ≡ some 25
unfolding rate_of
twenty_five s g e = let n : length (written s) ≡ 942 = omega (arith, e, written_nibbles VV5404 s g) in ap (λ (k : ℕ). rate_of (record { 0 = k })) n
