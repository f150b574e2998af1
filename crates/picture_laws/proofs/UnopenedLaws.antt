-- Nibbles of which no line opens a frame: the judge waits all along, and nothing is said.
use Rattle.std.specs.Prelude.{◌≡◌, refl, Bool, true, false, ◌&&◌, not, cond, List, [], ◌∷◌, ◌++◌, map, ℕ, ◌+◌, ◌*◌, ◌≤◌, eqb, length, None, Some}
use Rattle.std.proofs.Common.{sym, ap, subst, ◌∙◌, true≢false, le-leb}
use Rattle.std.proofs.Math.Option.{Option, none, some}
use Rattle.bits.specs.Every.{and_left, and_right, and_both}
use Rattle.refusal.specs.Refusal.{wrong_length, bad_number, bad_body, no_end_of_line, bad_gap}
use Rattle.line_code.specs.declared.Kind.{Kind}
use Rattle.line_code.specs.declared.Kind.TheVariants.{BL, BK, VL, SOF, EOF}
use Rattle.line_code.specs.declared.Meaning.TheVariants.{EndOfLine, Line, ReservedEC, ReservedF1}
use Rattle.line_code.specs.declared.Reading.{Reading}
use Rattle.line_code.specs.declared.Reading.TheVariants.{Says, Damaged}
use Rattle.line_code.specs.declared.Repair.{Repair}
use Rattle.line_code.specs.LineCode.{kind_number, reading_of, is_end, repair_of}
use Rattle.line_number.specs.LineNumber.{greatest, number_good, number_from}
use Rattle.line_number.specs.LineNumberLaws.{decoded}
use Rattle.profile.specs.declared.Profile.TheVariants.{VV5404}
use Rattle.profile.specs.Profile.{body_length, null_byte}
use Rattle.profile.specs.Layout.{rules, fits}
use Rattle.stream.specs.declared.Before.{Before}
use Rattle.stream.specs.declared.Before.TheVariants.{NoLine, RefusedLine, HandedOut}
use Rattle.stream.specs.declared.Mark.{Mark}
use Rattle.stream.specs.declared.Mark.TheVariants.{NoMark, Open}
use Rattle.stream.specs.Answers.{facts, Outcome, nothing, line, gap, refused, buffer_after, require, bytes_onto, line_from, line_answer, good_gap, period_of, turned, all_f, after_code, gap_answer, by_reading, answer_of}
use Rattle.stream.specs.Stream.{Completed, not_yet, mark, detect, State, answer_at, advance, step, outcomes}
use Rattle.recovery.specs.Calls.{LineOut, line_in}
use Rattle.recovery.specs.Collected.{lines}
use Rattle.frame_judge.specs.declared.Judge.{Judge}
use Rattle.frame_judge.specs.declared.Judge.TheVariants.{Waiting}
use Rattle.frame_judge.specs.declared.Judged.{Judged}
use Rattle.frame_judge.specs.declared.Ruling.TheVariants as ruling
use Rattle.frame_judge.specs.Frame.{broken_kind, opens, gives, judge_of}
use Rattle.frame_judge.specs.Calls.{called}
use Rattle.frame_judge.specs.Calls as judged
use Rattle.frame_handing.specs.Handing.{is_broken_line, hand}
use Rattle.frame_rows.specs.declared.Gatherer.{Gatherer}
use Rattle.frame_rows.specs.FrameRows.{Shown, AfterCall, by_ruling, handed, shown_as, handing, take_of}
use Rattle.frame_rows.specs.FrameRows as rows
use Rattle.frame_rows_laws.specs.Gathering.{call}
use Rattle.frame_grabber.specs.FrameGrabber.{blank, is_said}
use Rattle.picture_laws.specs.FrameSent.{opens_none}
use Rattle.picture_laws.specs.UntilSaidLaws.{given_of, until_said}

-- A line that comes out is numbered 4095 at most.

abbrev Numbered : Outcome → Type 0
Numbered nothing = Unit {0}
Numbered (line f body) = f.number ≤ greatest
Numbered (gap g) = Unit {0}
Numbered (refused n) = Unit {0}

required : (b : Bool) (n : ℕ) (o : Outcome) → (b ≡ true → Numbered o) → Numbered (require b n o)
unfolding require
required true n o h = h refl
required false n o h = tt

bytes_numbered : (k : Kind) (r : Repair) (bs : Option (List ℕ)) (next : Reading) → Numbered (line_from VV5404 k r bs next)
bytes_numbered k r none next = tt
bytes_numbered k r (some []) next = tt
bytes_numbered k r (some (c ∷ [])) next = tt
bytes_numbered k r (some (c ∷ a ∷ [])) next = tt
bytes_numbered k r (some (c ∷ a ∷ b ∷ body)) next =
    required (eqb (length body) (body_length VV5404)) wrong_length (require (number_good a && number_good b) bad_number (require (fits (rules VV5404 k) body) bad_body ended))
    (λ _. required (number_good a && number_good b) bad_number (require (fits (rules VV5404 k) body) bad_body ended)
    (λ e. required (fits (rules VV5404 k) body) bad_body ended (λ _. required (is_end next) no_end_of_line (line (facts k (number_from a b) r (repair_of next)) body) (λ _. small e))))
  where
    ended : Outcome
    ended = require (is_end next) no_end_of_line (line (facts k (number_from a b) r (repair_of next)) body)

    small : (number_good a && number_good b) ≡ true → number_from a b ≤ greatest
    small e = (decoded a b (number_from a b) (ap (λ (t : Bool). cond t (Some (number_from a b)) None) e)).0

line_numbered : (k : Kind) (r : Repair) (t : List ℕ) (next : Option ℕ) → Numbered (line_answer VV5404 k r t next)
line_numbered k r t none = tt
line_numbered k r t (some c) = bytes_numbered k r (bytes_onto t []) (reading_of c)

gap_numbered : (b : Before) (n : ℕ) (t : List ℕ) → Numbered (gap_answer VV5404 b n t)
unfolding good_gap
gap_numbered NoLine n t = tt
gap_numbered (RefusedLine k) n t = required (all_f (after_code (turned t []))) bad_gap (good_gap n null_byte null_byte) (λ _. tt)
gap_numbered (HandedOut k) n t = required (all_f (after_code (turned t []))) bad_gap (good_gap n null_byte null_byte) (λ _. tt)

reading_numbered_lem : (before : Before) (r : Reading) (t : List ℕ) (next : Option ℕ) → Numbered (by_reading VV5404 before r t next)
reading_numbered_lem before (Says EndOfLine r) t next = gap_numbered before (period_of VV5404 before (length t) next) t
reading_numbered_lem before (Says (Line k) r) t next = line_numbered k r t next
reading_numbered_lem before (Says ReservedEC r) t next = tt
reading_numbered_lem before (Says ReservedF1 r) t next = tt
reading_numbered_lem before Damaged t next = tt

answer_numbered : (m : Mark) (t : List ℕ) (next : Option ℕ) → Numbered (answer_at VV5404 m t next)
unfolding answer_of
answer_numbered NoMark t next = tt
answer_numbered (Open before code) t next = reading_numbered_lem before (reading_of code) t next

step_numbered : (s : State) (n : ℕ) → Numbered (step VV5404 s n).outcome
step_numbered s n = by (detect (n ∷ s.text))
  where
    by : (c : Completed) → Numbered (advance VV5404 s.at (n ∷ s.text) c).outcome
    by not_yet = tt
    by (mark x y before) = answer_numbered s.at before (some (16 * x + y))

-- The judge waits.

first_waits : (k : Kind) (n : ℕ) → n ≤ greatest → opens (kind_number k) n ≡ false → called VV5404 Waiting (judged.line (kind_number k) n) ≡ gives Waiting ruling.Waiting
unfolding judge_of
first_waits BL n h e = simp (le-leb n greatest h)
first_waits BK n h e = simp (le-leb n greatest h)
first_waits VL n h e = simp (le-leb n greatest h)
first_waits SOF n h e = simp (le-leb n greatest h, e)
first_waits EOF n h e = simp (le-leb n greatest h)

-- nothing is said, and the judge waits
abbrev Waits : AfterCall → Type 0
Waits x = (x.output ≡ rows.nothing) × (x.gatherer.judge ≡ Waiting)

handed_waits : (s : Gatherer) (l : Shown) (held : List ℕ) → s.judge ≡ Waiting → called VV5404 Waiting l.given ≡ gives Waiting ruling.Waiting → Waits (handed s l held)
unfolding handed
handed_waits s l held w e =
    let q : called VV5404 s.judge l.given ≡ gives Waiting ruling.Waiting = ap (λ (j : Judge). called VV5404 j l.given) w ∙ e in
    subst (λ (r : Judged). Waits (by_ruling s l held r.judge r.ruling)) (sym q) (refl, refl)

not_true : (b : Bool) → not b ≡ true → b ≡ false
not_true true e = absurd (true≢false (sym e))
not_true false e = refl

outcome_waits : (x : AfterCall) (o : Outcome) → Numbered o → opens_none (line_in o) ≡ true → Waits x → Waits (call x (given_of o))
unfolding take_of judge_of
outcome_waits x nothing h e w = (refl, w.1)
outcome_waits x (line f body) h e w =
    handed_waits x.gatherer (shown_as (kind_number f.kind) f.number (buffer_after (line f body) blank)) x.buffer w.1
    (first_waits f.kind f.number h (not_true (opens (kind_number f.kind) f.number) (and_left _ _ e)))
outcome_waits x (gap g) h e w = (refl, w.1)
outcome_waits x (refused n) h e w = by (is_broken_line n)
  where
    by : (b : Bool) → Waits (handing x.gatherer (cond b (hand broken_kind 0) None) blank x.buffer)
    by true = handed_waits x.gatherer (shown_as broken_kind 0 blank) x.buffer w.1 refl
    by false = (refl, w.1)

none_append : (a b : List LineOut) → opens_none (a ++ b) ≡ true → (opens_none a ≡ true) × (opens_none b ≡ true)
none_append [] b e = (refl, e)
none_append (l ∷ a) b e =
    let c : Bool = not (opens (kind_number l.kind) l.number) in
    let q = none_append a b (and_right c _ e) in
    (and_both c _ (and_left c _ e) q.0, q.1)

pub unopened_waits : (w : List ℕ) (s : State) (x : AfterCall) → opens_none (lines VV5404 s w) ≡ true → Waits x → Waits (until_said x (map given_of (outcomes VV5404 s w)))
unopened_waits [] s x e q = q
unopened_waits (n ∷ w) s x e q =
    let o : Outcome = (step VV5404 s n).outcome in
    let next : State = (step VV5404 s n).state in
    let a = none_append (line_in o) (lines VV5404 next w) e in
    subst (λ (b : Bool). Waits (cond b x (until_said (call x (given_of o)) (map given_of (outcomes VV5404 next w))))) (sym (ap is_said q.0))
    (unopened_waits w next (call x (given_of o)) a.1 (outcome_waits x o (step_numbered s n) a.0 q))
