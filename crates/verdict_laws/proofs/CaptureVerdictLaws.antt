-- Exactly when each verdict comes: the tally's, the signal's and the findings' own counts are those of the answers, and a count is above 0
-- exactly where one of them is so.
use Rattle.std.specs.Prelude.{◌≡◌, refl, Bool, true, false, ◌&&◌, ◌||◌, not, cond, List, [], ◌∷◌, ◌++◌, ◌↔◌, ℕ, zero, suc, ◌+◌, ◌≤◌, ◌<◌, min, eqb, leb, ltb, length, get_or, None, Option, Some}
use Rattle.std.proofs.Common.{◌∙◌, ap, ap₂, sym, subst, true≢false, append-nil, zero-add, arith, lit≤, lt-ltb, ltb-true, ltb-false, le-leb, leb-true, leb-false, eqb-true, ne_eqb, eq-eqb}
use Rattle.std.proofs.lemmas.Bool.{false≢true, lt-leb}
use Rattle.std.proofs.Math.Bool.{or-true, or-false, or_assoc}
use Rattle.bits.specs.Every.{and_left, and_right, and_both}
use Rattle.bits.specs.Tests.{or_left, or_right, or_neither}
use Rattle.refusal.specs.declared.Refusal.{Refusal}
use Rattle.refusal.specs.Refusal.{end_without_line, bad_kind, number_too_large}
use Rattle.counts.specs.Counts.{all_zero}
use Rattle.counts.specs.Counts as counts
use Rattle.counts.specs.CountsLaws.{counted, some, counting_some, one_more_length}
use Rattle.line_code.specs.declared.Kind.{Kind}
use Rattle.line_code.specs.declared.Kind.TheVariants.{BL, BK, VL, SOF, EOF}
use Rattle.line_code.specs.LineCode.{kind_number}
use Rattle.line_number.specs.LineNumber.{greatest}
use Rattle.profile.specs.declared.Profile.{Profile}
use Rattle.profile.specs.declared.Profile.TheVariants.{VV5404, VV5300}
use Rattle.stream.specs.declared.Answer.{Answer}
use Rattle.stream.specs.declared.Answer.TheVariants as answer
use Rattle.stream.specs.Answers.{is_answer, is_line_answer}
use Rattle.signal_tally.specs.declared.First.TheVariants.{InsideLine, Other}
use Rattle.signal_tally.specs.declared.Signal.{Signal}
use Rattle.signal_tally.specs.Signal.{refusals, fresh_signal, is_start, is_cut, with_first, seen, refusal_seen}
use Rattle.signal_tally.specs.Signal as signal
use Rattle.signal_tally.specs.Seen.{signalled, capture_signal, answers_of, from_start, is_refusal, first_of}
use Rattle.signal_tally.proofs.SignalLaws.{counts_answers}
use Rattle.frame_handing.specs.declared.HandedLine.{HandedLine}
use Rattle.frame_judge.specs.declared.Judge.{Judge}
use Rattle.frame_judge.specs.declared.Judge.TheVariants.{Waiting, Due}
use Rattle.frame_judge.specs.declared.Ruling.{Ruling}
use Rattle.frame_judge.specs.declared.Ruling.TheVariants as ruling
use Rattle.frame_judge.specs.declared.Judged.{Judged}
use Rattle.frame_layout.specs.FrameLayout.{last_place}
use Rattle.frame_judge.specs.Frame.{gives, refuses, opens, begun, broken_kind, judge_of, breaks_frame}
use Rattle.frame_judge.specs.Calls.{Line, line, called, after, rulings, is_complete, is_break}
use Rattle.frame_handing.specs.Handing.{is_broken_line, hand, handed_over, as_lines, handed_lines, all_handed}
use Rattle.frame_laws.specs.FrameLaws.{opens_is}
use Rattle.frame_tally.specs.declared.Tally.{Tally}
use Rattle.frame_tally.specs.declared.Told.{Told}
use Rattle.frame_tally.specs.declared.News.{News}
use Rattle.frame_tally.specs.declared.News.TheVariants.{Nothing, Complete, Broken, Cut}
use Rattle.frame_tally.specs.Tally.{fresh_tally, marked, opening, moved, quiet, broken_by, refused_by, told, handed, handing, cut_within, cut_of, is_unfinished, ended}
use Rattle.frame_tally.specs.Tally as tally
use Rattle.frame_tally.specs.Answered.{tallied, capture_tally}
use Rattle.frame_tally.specs.TallyLaws.{judged_as_said}
use Rattle.findings.specs.declared.Outside.{Outside}
use Rattle.findings.specs.declared.Findings.{Findings}
use Rattle.verdict.specs.declared.Verdict.{Verdict}
use Rattle.verdict.specs.declared.Verdict.TheVariants.{Good, CheckTheClip, NotGood, NoSignal}
use Rattle.findings.specs.Findings.{no_findings, is_outside, one_outside, with_line, take_of, close_of}
use Rattle.verdict.specs.Verdict.{in_order, by_frames, by_first, verdict_of}
use Rattle.verdict_laws.specs.CaptureVerdict.{found, capture_findings, capture_verdict, mark_came, capture_rulings, frame_complete, is_opening, before_first, from_first, is_whole, whole_lines, is_waiting, some_outside, few_before, line_outside, is_refused, mark_refused, all_in_order, Verdicts}

-- Counts.

-- a count is 0 exactly if it is not above 0
none : (n : ℕ) → eqb n 0 ≡ not (ltb 0 n)
none zero = refl
none (suc n) = simp (ne_eqb (suc n) 0 (λ e. omega (arith, e)), lt-ltb 0 (suc n) (omega arith))

-- of a sort counted from 0 on, none exactly if none of a list is so
none_so : (which : Ruling → Bool) (n : ℕ) (vs : List Ruling) → n ≡ counts.counting which 0 vs → eqb n 0 ≡ not (some which vs)
none_so which n vs e = none n ∙ ap not (ap (ltb 0) e ∙ counting_some which 0 vs)

-- The tally's counts, at the end of the capture.

tallied_append : (t : Tally) (v w : List Answer) → tallied t (v ++ w) ≡ tallied (tallied t v) w
tallied_append t [] w = refl
tallied_append t (a ∷ v) w = tallied_append (tally.take_of t a).tally v w

-- the same profile, the same complete frames and the same broken ones
record Alike (t d : Tally) : Type 0 where
  profile : d.profile ≡ t.profile
  complete : d.complete ≡ t.complete
  broken : d.broken ≡ t.broken

cut_alike : (t : Tally) → Alike t (cut_of t).tally
unfolding cut_of
cut_alike t = within t.judge
  where
    within : (j : Judge) → Alike t (cut_within t j).tally
    within Waiting = record { profile = refl; complete = refl; broken = refl }
    within (Due place b) = record { profile = refl; complete = refl; broken = refl }

ended_alike : (d : Told) (n : News) → Alike d.tally (ended d n).tally
ended_alike d Nothing = cut_alike d.tally
ended_alike d (Complete frame b mark) = record { profile = refl; complete = refl; broken = refl }
ended_alike d (Broken frame mark refusal own) = record { profile = refl; complete = refl; broken = refl }
ended_alike d (Cut frame) = record { profile = refl; complete = refl; broken = refl }

cut_marked : (t : Tally) → Alike t (cut_of (marked t)).tally
cut_marked t = let c = cut_alike (marked t) in record { profile = c.profile; complete = c.complete; broken = c.broken }

close_alike : (t : Tally) (last : Answer) → Alike (tallied t (cond (is_unfinished last) [] (last ∷ []))) (tally.close_of t last).tally
unfolding tally.close_of
close_alike t last = either (is_unfinished last)
  where
    either : (b : Bool)
        → Alike (tallied t (cond b [] (last ∷ []))) (cond b (cut_of (marked t)) (ended (tally.take_of t last) (tally.take_of t last).news)).tally
    either true = cut_marked t
    either false = ended_alike (tally.take_of t last) (tally.take_of t last).news

-- a tally of a capture counts the frames of the judge's rulings
pub record CountsRulings (p : Profile) (w : List Answer) (last : Answer) (t : Tally) : Type 0 where
  pub profile : t.profile ≡ p
  pub complete : t.complete ≡ counts.counting is_complete 0 (capture_rulings p w last)
  pub broken : t.broken ≡ counts.counting is_break 0 (capture_rulings p w last)

tally_counts : (p : Profile) (w : List Answer) (last : Answer) → CountsRulings p w last (capture_tally p w last)
tally_counts p w last =
    let v : List Answer = cond (is_unfinished last) [] (last ∷ []) in
    let t : Tally = tallied (fresh_tally p) w in
    let a : Alike (tallied (fresh_tally p) (w ++ v)) (tally.close_of t last).tally
    = subst (λ (d : Tally). Alike d (tally.close_of t last).tally) (sym (tallied_append (fresh_tally p) w v)) (close_alike t last) in
    let q = judged_as_said (fresh_tally p) (w ++ v) in
    record {
      profile = a.profile ∙ q.profile;
      complete = a.complete ∙ q.complete;
      broken = a.broken ∙ q.broken;
    }

-- The signal.

-- whether a mark was seen
by_first_lem : (v : Verdict) (w : List Answer) → by_first v (first_of w) ≡ cond (some is_answer w) v NoSignal
by_first_lem v [] = refl
by_first_lem v (answer.Nothing ∷ w) = by_first_lem v w
by_first_lem v (answer.Line f ∷ w) = refl
by_first_lem v (answer.Gap g ∷ w) = refl
by_first_lem v (answer.Refused r ∷ w) = either (eqb r.0 end_without_line)
  where
    either : (b : Bool) → by_first v (cond b InsideLine Other) ≡ v
    either true = refl
    either false = refl

-- the counts of refused marks stay as many
take_places : (s : Signal) (a : Answer) → length (signal.take_of s a).refused ≡ length s.refused
unfolding signal.take_of
take_places s answer.Nothing = refl
take_places s (answer.Line f) = refl
take_places s (answer.Gap g) = refl
take_places s (answer.Refused r) = either (is_start s.first r.0)
  where
    either : (b : Bool) → length (cond b (with_first s InsideLine) (refusal_seen s r.0)).refused ≡ length s.refused
    either true = refl
    either false = one_more_length s.refused r.0

all_places : (s : Signal) (w : List Answer) → length (signalled s w).refused ≡ length s.refused
all_places s [] = refl
all_places s (a ∷ w) = all_places (signal.take_of s a) w ∙ take_places s a

close_places : (s : Signal) (last : Answer) → length (signal.close_of s last).refused ≡ length s.refused
unfolding signal.close_of
close_places s last = either (is_cut last)
  where
    either : (b : Bool) → length (cond b (with_first s (seen s.first)) (signal.take_of s last)).refused ≡ length s.refused
    either true = refl
    either false = take_places s last

places : (w : List Answer) (last : Answer) → length (capture_signal w last).refused ≡ refusals
places w last = close_places (signalled fresh_signal w) last ∙ all_places fresh_signal w

-- counts side by side are all 0 exactly if each of them is
zero_there : (ns : List ℕ) (i : ℕ) → all_zero ns ≡ true → get_or ns i 0 ≡ 0
zero_there [] i h = refl
zero_there (n ∷ ns) zero h = eqb-true n 0 (and_left (eqb n 0) _ h)
zero_there (n ∷ ns) (suc i) h = zero_there ns i (and_right (eqb n 0) _ h)

zero_all : (ns : List ℕ) → ((i : ℕ) → i < length ns → get_or ns i 0 ≡ 0) → all_zero ns ≡ true
zero_all [] h = refl
zero_all (n ∷ ns) h = and_both (eqb n 0) _ (eq-eqb n 0 (h 0 (omega arith))) (zero_all ns (λ i l. h (suc i) (omega arith)))

-- no mark is refused with a number below 10 exactly if none is with each of them
numbered_no : (a : Answer) (n : ℕ) → n < refusals → is_refused a ≡ false → is_refusal n a ≡ false
numbered_no answer.Nothing n l h = refl
numbered_no (answer.Line f) n l h = refl
numbered_no (answer.Gap g) n l h = refl
numbered_no (answer.Refused r) n l h = ne_eqb r.0 n (λ e. omega (arith, e, l, ltb-false r.0 refusals h))

refused_no : (a : Answer) → ((n : ℕ) → n < refusals → is_refusal n a ≡ false) → is_refused a ≡ false
refused_no answer.Nothing h = refl
refused_no (answer.Line f) h = refl
refused_no (answer.Gap g) h = refl
refused_no (answer.Refused r) h = go (ltb r.0 refusals) refl
  where
    go : (b : Bool) → ltb r.0 refusals ≡ b → b ≡ false
    go true e = absurd (true≢false (sym (eq-eqb r.0 r.0 refl) ∙ h r.0 (ltb-true r.0 refusals e)))
    go false e = refl

none_numbered : (w : List Answer) (n : ℕ) → n < refusals → some is_refused w ≡ false → some (is_refusal n) w ≡ false
none_numbered [] n l h = refl
none_numbered (a ∷ w) n l h =
    or_neither (is_refusal n a) _ (numbered_no a n l (or_left (is_refused a) _ h)) (none_numbered w n l (or_right (is_refused a) _ h))

none_refused : (w : List Answer) → ((n : ℕ) → n < refusals → some (is_refusal n) w ≡ false) → some is_refused w ≡ false
none_refused [] h = refl
none_refused (a ∷ w) h =
    or_neither (is_refused a) _ (refused_no a (λ n l. or_left (is_refusal n a) _ (h n l))) (none_refused w (λ n l. or_right (is_refusal n a) _ (h n l)))

-- a test is the opposite of another
opposite : (a b : Bool) → (a ≡ true → b ≡ false) → (b ≡ false → a ≡ true) → a ≡ not b
opposite true true f g = absurd (true≢false (f refl))
opposite true false f g = refl
opposite false true f g = refl
opposite false false f g = g refl

above : (n : ℕ) → ltb 0 n ≡ false → n ≡ 0
above n h = let l = ltb-false 0 n h in omega arith

refused_of_lem : (w : List Answer) (last : Answer) → all_zero (capture_signal w last).refused ≡ not (mark_refused w last)
refused_of_lem w last = opposite (all_zero ns) (some is_refused v) none_there all_none
  where
    ns : List ℕ
    ns = (capture_signal w last).refused

    v : List Answer
    v = from_start (answers_of w last)

    is : (n : ℕ) → n < refusals → ltb 0 (get_or ns n 0) ≡ some (is_refusal n) v
    is n l = ap (ltb 0) ((counts_answers w last).refused n l) ∙ counting_some (is_refusal n) 0 v

    none_there : all_zero ns ≡ true → some is_refused v ≡ false
    none_there h = none_refused v (λ n l. sym (is n l) ∙ ap (ltb 0) (zero_there ns n h))

    all_none : some is_refused v ≡ false → all_zero ns ≡ true
    all_none h = zero_all ns (λ i l. let q : i < refusals = omega (arith, l, places w last) in above (get_or ns i 0) (is i q ∙ none_numbered v i q h))

-- Lines outside frames.

-- what is handed of a line is whole
pub whole_line_lem : (k : Kind) (n : ℕ) → is_whole (line (kind_number k) n) ≡ true
whole_line_lem BL n = refl
whole_line_lem BK n = refl
whole_line_lem VL n = refl
whole_line_lem SOF n = refl
whole_line_lem EOF n = refl

outside_line : (i j : Judge) (a : Answer) → is_outside i j a ≡ (is_line_answer a && (is_waiting i && is_waiting j))
outside_line Waiting Waiting a = either (is_line_answer a)
  where
    either : (b : Bool) → b ≡ (b && true)
    either true = refl
    either false = refl
outside_line Waiting (Due place b) a = either (is_line_answer a)
  where
    either : (c : Bool) → false ≡ (c && false)
    either true = refl
    either false = refl
outside_line (Due place b) j a = either (is_line_answer a)
  where
    either : (c : Bool) → false ≡ (c && false)
    either true = refl
    either false = refl

-- the tally with another judge
abbrev with_judge : Tally → Judge → Tally
with_judge t j = record { profile = t.profile; judge = j; marks = t.marks; frames = t.frames; complete = t.complete; broken = t.broken }

-- a call that finds the judge waiting: a line that opens a frame, and any other
record FromWaiting (t d : Tally) (b : Bool) : Type 0 where
  profile : d.profile ≡ t.profile
  judge : d.judge ≡ cond b begun Waiting
  frames : d.frames ≡ cond b (counts.one_more t.frames) t.frames

-- a line that opens no frame leaves a waiting judge waiting
pub still_waits : (p : Profile) (l : Line) → is_opening l ≡ false → ((called p Waiting l).judge ≡ Waiting) × (is_break (called p Waiting l).ruling ≡ false)
unfolding judge_of
still_waits p l e = go (leb l.kind (kind_number EOF)) (eqb l.kind broken_kind) (leb l.number greatest) (opens l.kind l.number) e
  where
    r : Bool → Bool → Bool → Bool → Judged
    r a b c o =
        cond a
        (cond b (gives Waiting ruling.Waiting) (cond c (cond o (gives begun ruling.Going) (gives Waiting ruling.Waiting)) (refuses Waiting number_too_large)))
        (refuses Waiting bad_kind)

    go : (a b c o : Bool) → o ≡ false → ((r a b c o).judge ≡ Waiting) × (is_break (r a b c o).ruling ≡ false)
    go a b c true h = absurd (true≢false h)
    go true true c false h = (refl, refl)
    go true false true false h = (refl, refl)
    go true false false false h = (refl, refl)
    go false b c false h = (refl, refl)

told_quiet : (t : Tally) (own : Option Refusal) (j : Judge) (v : Ruling) → j ≡ Waiting → is_break v ≡ false → FromWaiting t (told (with_judge t Waiting) own j v).tally false
unfolding refused_by
told_quiet t own j v e h = subst (λ (i : Judge). FromWaiting t (told (with_judge t Waiting) own i v).tally false) (sym e) (go v h)
  where
    go : (v : Ruling) → is_break v ≡ false → FromWaiting t (told (with_judge t Waiting) own Waiting v).tally false
    go ruling.Waiting h = record { profile = refl; judge = refl; frames = refl }
    go ruling.Going h = record { profile = refl; judge = refl; frames = refl }
    go ruling.Complete h = record { profile = refl; judge = refl; frames = refl }
    go (ruling.Refused refusal) h = either (breaks_frame refusal.0) h
      where
        either : (b : Bool) → b ≡ false → FromWaiting t (cond b (broken_by (with_judge t Waiting) Waiting refusal own) (quiet (moved (with_judge t Waiting) Waiting Waiting))).tally false
        either true e = absurd (true≢false e)
        either false e = record { profile = refl; judge = refl; frames = refl }

other_call : (t : Tally) (k n : ℕ) (own : Option Refusal) → opens k n ≡ false → FromWaiting t (handed (with_judge t Waiting) k n own).tally false
unfolding handed
other_call t k n own e =
    let s = still_waits t.profile (line k n) e in
    told_quiet t own (judge_of t.profile Waiting k n).judge (judge_of t.profile Waiting k n).ruling s.0 s.1

opening_call : (t : Tally) (own : Option Refusal) → FromWaiting t (handed (with_judge t Waiting) (kind_number SOF) 0 own).tally true
unfolding handed judge_of refused_by
opening_call t own = record { profile = refl; judge = refl; frames = refl }

from_waiting : (t : Tally) (k n : ℕ) (own : Option Refusal) → t.judge ≡ Waiting → FromWaiting t (handed t k n own).tally (opens k n)
from_waiting t k n own w = subst (λ (j : Judge). FromWaiting t (handed (with_judge t j) k n own).tally (opens k n)) (sym w) (go (opens k n) refl)
  where
    go : (b : Bool) → opens k n ≡ b → FromWaiting t (handed (with_judge t Waiting) k n own).tally b
    go true e = subst (λ (l : Line). FromWaiting t (handed (with_judge t Waiting) l.kind l.number own).tally true) (sym (opens_is (line k n) e)) (opening_call t own)
    go false e = other_call t k n own e

-- frames once opened stay counted
opening_stays : (i j : Judge) (n : ℕ) → ltb 0 n ≡ true → ltb 0 (opening i j n) ≡ true
opening_stays Waiting Waiting n h = h
opening_stays Waiting (Due place b) n h = counted n
opening_stays (Due place b) j n h = h

told_stays : (t : Tally) (own : Option Refusal) (j : Judge) (v : Ruling) → ltb 0 t.frames ≡ true → ltb 0 (told t own j v).tally.frames ≡ true
unfolding refused_by
told_stays t own j ruling.Waiting h = opening_stays t.judge j t.frames h
told_stays t own j ruling.Going h = opening_stays t.judge j t.frames h
told_stays t own j ruling.Complete h = h
told_stays t own j (ruling.Refused refusal) h = either (breaks_frame refusal.0)
  where
    either : (b : Bool) → ltb 0 (cond b (broken_by t j refusal own) (quiet (moved t t.judge j))).tally.frames ≡ true
    either true = opening_stays Waiting j t.frames h
    either false = opening_stays t.judge j t.frames h

handing_stays : (t : Tally) (h : Option HandedLine) (own : Option Refusal) → ltb 0 t.frames ≡ true → ltb 0 (handing t h own).tally.frames ≡ true
unfolding handed
handing_stays t None own l = l
handing_stays t (Some h) own l = told_stays t own (judge_of t.profile t.judge h.kind h.number).judge (judge_of t.profile t.judge h.kind h.number).ruling l

take_stays : (t : Tally) (a : Answer) → ltb 0 t.frames ≡ true → ltb 0 (tally.take_of t a).tally.frames ≡ true
unfolding tally.take_of
take_stays t answer.Nothing h = h
take_stays t (answer.Line f) h = handing_stays (marked t) (handed_over (answer.Line f)) None h
take_stays t (answer.Gap g) h = h
take_stays t (answer.Refused r) h = handing_stays (marked t) (handed_over (answer.Refused r)) (Some r) h

-- an answer's line is outside exactly if what is handed of it is
outside_handed : (p : Profile) (i j : Judge) (a : Answer) → j ≡ after p i (handed_lines a) → is_outside i j a ≡ some_outside p i (handed_lines a)
outside_handed p i j answer.Nothing e = outside_line i j answer.Nothing
outside_handed p i j (answer.Line f) e =
    let l : Line = line (kind_number f.kind) f.number in
    outside_line i j (answer.Line f)
    ∙ ap₂ (λ (b : Bool) (k : Judge). b && (is_waiting i && is_waiting k)) (sym (whole_line_lem f.kind f.number)) e
    ∙ sym (or-false (is_whole l && (is_waiting i && is_waiting (called p i l).judge)))
outside_handed p i j (answer.Gap g) e = outside_line i j (answer.Gap g)
outside_handed p i j (answer.Refused r) e = outside_line i j (answer.Refused r) ∙ either (is_broken_line r.0)
  where
    either : (b : Bool) → false ≡ some_outside p i (as_lines (cond b (hand broken_kind 0) None))
    either true = refl
    either false = refl

with_line_lem : (o : Outside) (t d : Tally) (a : Answer) (b : Bool) → is_outside t.judge d.judge a ≡ b → with_line o t d a ≡ cond b (one_outside o t.frames) o
unfolding with_line
with_line_lem o t d a b e = ap (λ (c : Bool). cond c (one_outside o t.frames) o) e

-- one more, once a frame has opened
abbrev counted_one : Outside → Bool → Outside
counted_one o first = cond first (record { early = counts.one_more o.early; later = o.later }) (record { early = o.early; later = counts.one_more o.later })

one_later : (o : Outside) (n : ℕ) (b : Bool) → ltb 0 n ≡ true → (ltb 0 (cond b (one_outside o n) o).later ≡ (ltb 0 o.later || b)) × ((cond b (one_outside o n) o).early ≡ o.early)
one_later o n true h =
    let e : eqb n 0 ≡ false = none n ∙ ap not h in
    (ap (λ (c : Bool). ltb 0 (counted_one o c).later) e ∙ counted o.later ∙ sym (or-true (ltb 0 o.later)), ap (λ (c : Bool). (counted_one o c).early) e)
one_later o n false h = (sym (or-false (ltb 0 o.later)), refl)

outside_append : (p : Profile) (j : Judge) (ls ms : List Line) → some_outside p j (ls ++ ms) ≡ (some_outside p j ls || some_outside p (after p j ls) ms)
outside_append p j [] ms = refl
outside_append p j (l ∷ ls) ms =
    let here : Bool = is_whole l && (is_waiting j && is_waiting (called p j l).judge) in
    ap (λ (b : Bool). here || b) (outside_append p (called p j l).judge ls ms)
    ∙ sym (or_assoc here (some_outside p (called p j l).judge ls) (some_outside p (after p (called p j l).judge ls) ms))

-- once a frame has opened, each line outside is a later one
record Later (f g : Findings) (ls : List Line) : Type 0 where
  early : g.outside.early ≡ f.outside.early
  later : ltb 0 g.outside.later ≡ (ltb 0 f.outside.later || some_outside f.tally.profile f.tally.judge ls)

later_one : (f : Findings) (a : Answer) → ltb 0 f.tally.frames ≡ true → Later f (take_of f a).findings (handed_lines a)
unfolding take_of
later_one f a h =
    let t : Tally = f.tally in
    let d : Tally = (tally.take_of t a).tally in
    let q = judged_as_said t (a ∷ []) in
    let b : Bool = some_outside t.profile t.judge (handed_lines a) in
    let is : is_outside t.judge d.judge a ≡ b
    = outside_handed t.profile t.judge d.judge a (q.judge ∙ ap (after t.profile t.judge) (append-nil (handed_lines a))) in
    let o = with_line_lem f.outside t d a b is in
    let one = one_later f.outside t.frames b h in
    record { early = ap (λ (x : Outside). x.early) o ∙ one.1; later = ap (λ (x : Outside). ltb 0 x.later) o ∙ one.0 }

later_on : (f : Findings) (w : List Answer) → ltb 0 f.tally.frames ≡ true → Later f (found f w) (all_handed w)
unfolding take_of
later_on f [] h = record { early = refl; later = sym (or-false (ltb 0 f.outside.later)) }
later_on f (a ∷ w) h =
    let g : Findings = (take_of f a).findings in
    let one = later_one f a h in
    let q = judged_as_said f.tally (a ∷ []) in
    let all = later_on g w (take_stays f.tally a h) in
    let p : Profile = f.tally.profile in
    let j : Judge = f.tally.judge in
    record {
      early = all.early ∙ one.early;
      later =
          all.later
          ∙ ap₂ (λ (x : Profile) (k : Judge). ltb 0 g.outside.later || some_outside x k (all_handed w)) q.profile (q.judge ∙ ap (after p j) (append-nil (handed_lines a)))
          ∙ ap (λ (b : Bool). b || some_outside p (after p j (handed_lines a)) (all_handed w)) one.later
          ∙ or_assoc (ltb 0 f.outside.later) (some_outside p j (handed_lines a)) (some_outside p (after p j (handed_lines a)) (all_handed w))
          ∙ ap (λ (b : Bool). ltb 0 f.outside.later || b) (sym (outside_append p j (handed_lines a) (all_handed w)));
    }

-- before a frame has opened: nothing is handed, a line that opens none, or one that does
data Steps (f g : Findings) : List Line → Type 0 where
  no_line_lem : g.tally.profile ≡ f.tally.profile → g.tally.judge ≡ Waiting → g.tally.frames ≡ 0 → g.outside ≡ f.outside → Steps f g []
  other_line : (l : Line) → is_opening l ≡ false → g.tally.profile ≡ f.tally.profile → g.tally.judge ≡ Waiting → g.tally.frames ≡ 0
      → g.outside ≡ cond (is_whole l) (one_outside f.outside 0) f.outside → Steps f g (l ∷ [])
  first_line : (l : Line) → is_opening l ≡ true → g.tally.profile ≡ f.tally.profile → g.tally.judge ≡ begun → ltb 0 g.tally.frames ≡ true
      → g.outside ≡ f.outside → Steps f g (l ∷ [])

no_outside : (o : Outside) (t d : Tally) (a : Answer) → is_line_answer a ≡ false → with_line o t d a ≡ o
no_outside o t d a e = with_line_lem o t d a false (outside_line t.judge d.judge a ∙ ap (λ (b : Bool). b && (is_waiting t.judge && is_waiting d.judge)) e)

steps : (f : Findings) (a : Answer) → f.tally.judge ≡ Waiting → f.tally.frames ≡ 0 → Steps f (take_of f a).findings (handed_lines a)
unfolding take_of tally.take_of
steps f answer.Nothing j z = no_line_lem refl j z (no_outside f.outside f.tally f.tally answer.Nothing refl)
steps f (answer.Line l) j z = go (opens k n) refl (from_waiting (marked t) k n None j)
  where
    t : Tally
    t = f.tally

    k : ℕ
    k = kind_number l.kind

    n : ℕ
    n = l.number

    d : Tally
    d = (handed (marked t) k n None).tally

    outside : (b : Bool) → d.judge ≡ cond b begun Waiting → with_line f.outside t d (answer.Line l) ≡ cond (not b) (one_outside f.outside 0) f.outside
    outside true e = with_line_lem f.outside t d (answer.Line l) false (ap₂ (λ (x y : Judge). is_outside x y (answer.Line l)) j e)
    outside false e =
        with_line_lem f.outside t d (answer.Line l) true (ap₂ (λ (x y : Judge). is_outside x y (answer.Line l)) j e) ∙ ap (one_outside f.outside) z

    go : (b : Bool) → opens k n ≡ b → FromWaiting (marked t) d (opens k n) → Steps f (take_of f (answer.Line l)).findings (line k n ∷ [])
    go true e w =
        let r = subst (FromWaiting (marked t) d) e w in
        first_line (line k n) e r.profile r.judge (ap (ltb 0) r.frames ∙ counted t.frames) (outside true r.judge)
    go false e w =
        let r = subst (FromWaiting (marked t) d) e w in
        other_line (line k n) e r.profile r.judge (r.frames ∙ z)
        (outside false r.judge ∙ ap (λ (b : Bool). cond b (one_outside f.outside 0) f.outside) (sym (whole_line_lem l.kind n)))
steps f (answer.Gap g) j z = no_line_lem refl j z (no_outside f.outside f.tally (marked f.tally) (answer.Gap g) refl)
steps f (answer.Refused r) j z = go (is_broken_line r.0)
  where
    t : Tally
    t = f.tally

    after_it : Told → Findings
    after_it d =
        record { tally = d.tally; signal = signal.take_of f.signal (answer.Refused r); outside = with_line f.outside t d.tally (answer.Refused r); cut = f.cut }

    go : (b : Bool) → let h : Option HandedLine = cond b (hand broken_kind 0) None in Steps f (after_it (handing (marked t) h (Some r))) (as_lines h)
    go true =
        let w = from_waiting (marked t) broken_kind 0 (Some r) j in
        other_line (line broken_kind 0) refl w.profile w.judge (w.frames ∙ z) (no_outside f.outside t (handed (marked t) broken_kind 0 (Some r)).tally (answer.Refused r) refl)
    go false = no_line_lem refl j z (no_outside f.outside t (marked t) (answer.Refused r) refl)

-- a line that opens a frame is not outside
from_opening : (p : Profile) (l : Line) (ls : List Line) → is_opening l ≡ true → some_outside p Waiting (l ∷ ls) ≡ some_outside p begun ls
unfolding judge_of
from_opening p l ls e = ap (λ (x : Line). some_outside p Waiting (x ∷ ls)) (opens_is l e)

-- before a frame has opened, each whole line is an early one
record Early (f g : Findings) (ls : List Line) : Type 0 where
  early : g.outside.early ≡ counts.counting is_whole f.outside.early (before_first ls)
  later : ltb 0 g.outside.later ≡ (ltb 0 f.outside.later || some_outside f.tally.profile Waiting (from_first ls))

counted_early : (o : Outside) (b : Bool) → (cond b (one_outside o 0) o).early ≡ cond b (counts.one_more o.early) o.early
counted_early o true = refl
counted_early o false = refl

same_later : (o : Outside) (b : Bool) → (cond b (one_outside o 0) o).later ≡ o.later
same_later o true = refl
same_later o false = refl

early_on : (f : Findings) (w : List Answer) → f.tally.judge ≡ Waiting → f.tally.frames ≡ 0 → Early f (found f w) (all_handed w)
early_on f [] j z = record { early = refl; later = sym (or-false (ltb 0 f.outside.later)) }
early_on f (a ∷ w) j z = go (handed_lines a) (steps f a j z) (early_on (take_of f a).findings w)
  where
    g : Findings
    g = (take_of f a).findings

    ms : List Line
    ms = all_handed w

    go : (ls : List Line) → Steps f g ls → (g.tally.judge ≡ Waiting → g.tally.frames ≡ 0 → Early g (found g w) ms) → Early f (found g w) (ls ++ ms)
    go _ (no_line_lem p k y o) rest =
        let r = rest k y in
        record {
          early = r.early ∙ ap (λ (x : Outside). counts.counting is_whole x.early (before_first ms)) o;
          later = r.later ∙ ap₂ (λ (x : Outside) (q : Profile). ltb 0 x.later || some_outside q Waiting (from_first ms)) o p;
        }
    go _ (other_line l e p k y o) rest =
        let r = rest k y in
        record {
          early =
              r.early
              ∙ ap (λ (n : ℕ). counts.counting is_whole n (before_first ms)) (ap (λ (x : Outside). x.early) o ∙ counted_early f.outside (is_whole l))
              ∙ ap (λ (b : Bool). counts.counting is_whole f.outside.early (cond b [] (l ∷ before_first ms))) (sym e);
          later =
              r.later
              ∙ ap₂ (λ (n : ℕ) (q : Profile). ltb 0 n || some_outside q Waiting (from_first ms)) (ap (λ (x : Outside). x.later) o ∙ same_later f.outside (is_whole l)) p
              ∙ ap (λ (b : Bool). ltb 0 f.outside.later || some_outside f.tally.profile Waiting (cond b (l ∷ ms) (from_first ms))) (sym e);
        }
    go _ (first_line l e p k y o) rest =
        let r = later_on g w y in
        record {
          early =
              r.early
              ∙ ap (λ (x : Outside). x.early) o
              ∙ ap (λ (b : Bool). counts.counting is_whole f.outside.early (cond b [] (l ∷ before_first ms))) (sym e);
          later =
              r.later
              ∙ ap₂ (λ (x : Outside) (b : Bool). ltb 0 x.later || b) o
              (ap₂ (λ (q : Profile) (x : Judge). some_outside q x ms) p k ∙ sym (from_opening f.tally.profile l ms e))
              ∙ ap (λ (b : Bool). ltb 0 f.outside.later || some_outside f.tally.profile Waiting (cond b (l ∷ ms) (from_first ms))) (sym e);
        }

-- a count is held at the greatest u64
held : (n : ℕ) (ls : List Line) → n ≤ counts.greatest_count → counts.counting is_whole n ls ≡ min counts.greatest_count (n + length (whole_lines ls))
unfolding counts.one_more
held n [] h = omega arith
held n (l ∷ ls) h = go (is_whole l) (λ k g. held k ls g)
  where
    Held : ℕ → Type 0
    Held k = k ≤ counts.greatest_count → counts.counting is_whole k ls ≡ min counts.greatest_count (k + length (whole_lines ls))

    more : (b : Bool) → ltb n counts.greatest_count ≡ b → ((k : ℕ) → Held k) → counts.counting is_whole (cond b (n + 1) n) ls ≡ min counts.greatest_count (n + suc (length (whole_lines ls)))
    more true e rest = let l = ltb-true n counts.greatest_count e in rest (n + 1) (omega arith) ∙ omega arith
    more false e rest = let l = ltb-false n counts.greatest_count e in rest n h ∙ omega arith

    go : (b : Bool) → ((k : ℕ) → Held k) → counts.counting is_whole (cond b (counts.one_more n) n) ls ≡ min counts.greatest_count (n + length (cond b (l ∷ whole_lines ls) (whole_lines ls)))
    go true rest = more (ltb n counts.greatest_count) refl rest
    go false rest = rest n h

held_few : (n m : ℕ) → m < counts.greatest_count → leb (min counts.greatest_count n) m ≡ leb n m
held_few n m h = go (leb n m) refl
  where
    go : (b : Bool) → leb n m ≡ b → leb (min counts.greatest_count n) m ≡ b
    go true e = let l = leb-true n m e in le-leb (min counts.greatest_count n) m (omega arith)
    go false e = let l = leb-false n m e in lt-leb (min counts.greatest_count n) m (omega arith)

last_small : (p : Profile) → last_place p < counts.greatest_count
last_small VV5404 = lit≤ tt
last_small VV5300 = lit≤ tt

record OutsideOf (p : Profile) (w : List Answer) : Type 0 where
  early : leb (found (no_findings p) w).outside.early (last_place p) ≡ few_before p w
  later : eqb (found (no_findings p) w).outside.later 0 ≡ not (line_outside p w)

outside_of : (p : Profile) (w : List Answer) → OutsideOf p w
outside_of p w =
    let r = early_on (no_findings p) w refl refl in
    let ls : List Line = before_first (all_handed w) in
    record {
      early =
          ap (λ (n : ℕ). leb n (last_place p)) (r.early ∙ held 0 ls (omega arith) ∙ ap (min counts.greatest_count) (zero-add (length (whole_lines ls))))
          ∙ held_few (length (whole_lines ls)) (last_place p) (last_small p);
      later = none (found (no_findings p) w).outside.later ∙ ap not r.later;
    }

-- The verdict.

found_tally : (f : Findings) (w : List Answer) → (found f w).tally ≡ tallied f.tally w
unfolding take_of
found_tally f [] = refl
found_tally f (a ∷ w) = found_tally (take_of f a).findings w

found_signal : (f : Findings) (w : List Answer) → (found f w).signal ≡ signalled f.signal w
unfolding take_of
found_signal f [] = refl
found_signal f (a ∷ w) = found_signal (take_of f a).findings w

capture_tally_lem : (p : Profile) (w : List Answer) (last : Answer) → (capture_findings p w last).tally ≡ capture_tally p w last
unfolding close_of
capture_tally_lem p w last = ap (λ (t : Tally). (tally.close_of t last).tally) (found_tally (no_findings p) w)

pub counts_rulings : (p : Profile) (w : List Answer) (last : Answer) → CountsRulings p w last (capture_findings p w last).tally
counts_rulings p w last = subst (CountsRulings p w last) (sym (capture_tally_lem p w last)) (tally_counts p w last)

capture_signal_lem : (p : Profile) (w : List Answer) (last : Answer) → (capture_findings p w last).signal ≡ capture_signal w last
unfolding close_of
capture_signal_lem p w last = ap (λ (s : Signal). signal.close_of s last) (found_signal (no_findings p) w)

in_order_lem : (p : Profile) (w : List Answer) (last : Answer) (lost : Bool) → in_order (capture_findings p w last) lost ≡ all_in_order p w last lost
unfolding in_order close_of
in_order_lem p w last lost =
    let fr = counts_rulings p w last in
    let o = outside_of p w in
    let early : ℕ = (found (no_findings p) w).outside.early in
    ap (λ (b : Bool). not lost && b)
    (ap₂ ◌&&◌ (none_so is_break (capture_findings p w last).tally.broken (capture_rulings p w last) fr.broken)
    (ap₂ ◌&&◌ o.later
    (ap₂ ◌&&◌ (ap (λ (x : Profile). leb early (last_place x)) fr.profile ∙ o.early)
    (ap (λ (s : Signal). all_zero s.refused) (capture_signal_lem p w last) ∙ refused_of_lem w last))))

-- the verdict, by the three tests
abbrev by_tests : Bool → Bool → Bool → Verdict
by_tests marks complete order = cond marks (cond complete (cond order Good CheckTheClip) NotGood) NoSignal

other_way : (b : Bool) (x y : Verdict) → cond (not b) x y ≡ cond b y x
other_way true x y = refl
other_way false x y = refl

by_tests_lem : (p : Profile) (w : List Answer) (last : Answer) (lost : Bool)
    → capture_verdict p w last lost ≡ by_tests (mark_came w last) (frame_complete p w last) (all_in_order p w last lost)
unfolding verdict_of by_frames
by_tests_lem p w last lost =
    let f : Findings = capture_findings p w last in
    let complete : eqb f.tally.complete 0 ≡ not (frame_complete p w last) = none_so is_complete f.tally.complete (capture_rulings p w last) (counts_rulings p w last).complete in
    let frames : by_frames f lost ≡ cond (frame_complete p w last) (cond (all_in_order p w last lost) Good CheckTheClip) NotGood
    = ap₂ (λ (b c : Bool). cond b NotGood (cond c Good CheckTheClip)) complete (in_order_lem p w last lost)
    ∙ other_way (frame_complete p w last) NotGood (cond (all_in_order p w last lost) Good CheckTheClip) in
    ap₂ by_first frames (ap (λ (s : Signal). s.first) (capture_signal_lem p w last) ∙ (counts_answers w last).first)
    ∙ by_first_lem (cond (frame_complete p w last) (cond (all_in_order p w last lost) Good CheckTheClip) NotGood) (w ++ (last ∷ []))

-- without a mark nothing is handed to the judge
none_handed : (w : List Answer) → some is_answer w ≡ false → all_handed w ≡ []
none_handed [] h = refl
none_handed (answer.Nothing ∷ w) h = none_handed w h
none_handed (answer.Line f ∷ w) h = absurd (true≢false h)
none_handed (answer.Gap g ∷ w) h = absurd (true≢false h)
none_handed (answer.Refused n ∷ w) h = absurd (true≢false h)

none_came_lem : (w : List Answer) (last : Answer) (b : Bool) → some is_answer (w ++ (last ∷ [])) ≡ false → some is_answer (w ++ cond b [] (last ∷ [])) ≡ false
none_came_lem [] last true h = refl
none_came_lem [] last false h = h
none_came_lem (a ∷ w) last b h = or_neither (is_answer a) _ (or_left (is_answer a) _ h) (none_came_lem w last b (or_right (is_answer a) _ h))

complete_marked : (p : Profile) (w : List Answer) (last : Answer) → frame_complete p w last ≡ true → mark_came w last ≡ true
complete_marked p w last h = go (mark_came w last) refl
  where
    go : (b : Bool) → mark_came w last ≡ b → b ≡ true
    go true e = refl
    go false e =
        let v : List Answer = w ++ cond (is_unfinished last) [] (last ∷ []) in
        absurd (true≢false (sym h ∙ ap (λ (ls : List Line). some is_complete (rulings p Waiting ls)) (none_handed v (none_came_lem w last (is_unfinished last) e))))

-- each verdict, by the three tests
record Exactly (v : Verdict) (marks complete order : Bool) : Type 0 where
  no_signal : (v ≡ NoSignal) ↔ (marks ≡ false)
  not_good : (v ≡ NotGood) ↔ ((marks ≡ true) × (complete ≡ false))
  good : (v ≡ Good) ↔ ((complete ≡ true) × (order ≡ true))
  check : (v ≡ CheckTheClip) ↔ ((complete ≡ true) × (order ≡ false))

exactly : (marks complete order : Bool) → (complete ≡ true → marks ≡ true) → Exactly (by_tests marks complete order) marks complete order
exactly true true true h =
    record {
      no_signal = (λ e. cc, λ e. absurd (true≢false e));
      not_good = (λ e. (cc, cc), λ e. absurd (true≢false e.1));
      good = (λ e. (refl, refl), λ e. refl);
      check = (λ e. (cc, cc), λ e. absurd (true≢false e.1));
    }
exactly true true false h =
    record {
      no_signal = (λ e. cc, λ e. absurd (true≢false e));
      not_good = (λ e. (cc, cc), λ e. absurd (true≢false e.1));
      good = (λ e. (cc, cc), λ e. absurd (false≢true e.1));
      check = (λ e. (refl, refl), λ e. refl);
    }
exactly true false order h =
    record {
      no_signal = (λ e. cc, λ e. absurd (true≢false e));
      not_good = (λ e. (refl, refl), λ e. refl);
      good = (λ e. (cc, cc), λ e. absurd (false≢true e.0));
      check = (λ e. (cc, cc), λ e. absurd (false≢true e.0));
    }
exactly false true order h = absurd (false≢true (h refl))
exactly false false order h =
    record {
      no_signal = (λ e. refl, λ e. refl);
      not_good = (λ e. (cc, cc), λ e. absurd (false≢true e.0));
      good = (λ e. (cc, cc), λ e. absurd (false≢true e.0));
      check = (λ e. (cc, cc), λ e. absurd (false≢true e.0));
    }

-- the law: whatever the answers, finish's, and whether the signal is lost
pub verdicts : (p : Profile) (w : List Answer) (last : Answer) (lost : Bool) → Verdicts p w last lost
verdicts p w last lost =
    let x = subst (λ (v : Verdict). Exactly v (mark_came w last) (frame_complete p w last) (all_in_order p w last lost)) (sym (by_tests_lem p w last lost))
    (exactly (mark_came w last) (frame_complete p w last) (all_in_order p w last lost) (complete_marked p w last)) in
    record { no_signal = x.no_signal; not_good = x.not_good; good = x.good; check = x.check }
