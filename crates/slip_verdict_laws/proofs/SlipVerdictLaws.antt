-- The verdict on a capture of whole frames with a slip (02, A14): the judge is handed a broken line for the slipped one, so a refused mark counts and
-- something is out of order; and every other frame is complete.
use Rattle.std.specs.Prelude.{◌≡◌, refl, Bool, true, false, ◌&&◌, ◌||◌, not, cond, List, [], ◌∷◌, ◌++◌, map, ℕ, ◌+◌, length, replicate}
use Rattle.std.proofs.Common.{◌∙◌, ap, ap₂, sym, subst, true≢false, append-nil}
use Rattle.std.proofs.Math.Bool.{or-true}
use Rattle.std.proofs.Math.Option.{none}
use Rattle.counts.specs.CountsLaws.{some}
use Rattle.text.specs.Text.{ascii}
use Rattle.profile.specs.declared.Profile.TheVariants.{VV5404}
use Rattle.stream.specs.declared.Answer.{Answer}
use Rattle.stream.specs.declared.Answer.TheVariants as answer
use Rattle.stream.specs.Answers.{Outcome, is_answer, answer_for}
use Rattle.stream.specs.Stream.{State, fresh, finish, run, outcomes}
use Rattle.stream.specs.Written.{Sent, AllWritable}
use Rattle.stream.specs.Nibbles.{AllNibbles, no_nibble}
use Rattle.recovery.specs.Collected.{collected}
use Rattle.recovery.specs.WrittenLaws.{all_changed}
use Rattle.signal_tally.specs.Signal.{is_cut}
use Rattle.frame_judge.specs.declared.Judge.TheVariants.{Waiting}
use Rattle.frame_judge.specs.declared.Ruling.{Ruling}
use Rattle.frame_judge.specs.declared.Ruling.TheVariants.{Going, Complete}
use Rattle.frame_layout.specs.FrameLayout.{last_place}
use Rattle.frame_judge.specs.Calls.{Line, rulings, is_complete}
use Rattle.frame_handing.specs.Handing.{all_handed}
use Rattle.frame_laws.specs.CompleteFrames.{to_complete}
use Rattle.frame_laws.specs.SentFrames.{judged_line, all_lines, AllFrames}
use Rattle.frame_tally.specs.Tally.{is_unfinished}
use Rattle.slip_laws.specs.Slip.{body_start, slipped, Inside}
use Rattle.slip_laws.specs.SlipFrames.{all_complete, lost, OneFrameLost}
use Rattle.slip_laws.specs.Handed.{handed_by}
use Rattle.slip_laws.proofs.LeftHanded.{broken_one}
use Rattle.slip_laws.proofs.LostRulings.{lost_incomplete, one_lost}
use Rattle.slip_laws.proofs.SlipFramesLaws.{slipped_handed, lines_around}
use Rattle.slip_laws.proofs.SlipTally.{lost_counted}
use Rattle.verdict.specs.declared.Verdict.{Verdict}
use Rattle.verdict.specs.Verdict.{is_lost}
use Rattle.verdict_report.specs.Report.{verdict_line}
use Rattle.list_frames.specs.FrameLister.{fresh_lister, list_after, end_text}
use Rattle.verdict_laws.specs.CaptureVerdict.{capture_verdict, capture_rulings, frame_complete, frame_broken, few_before, line_outside, mark_refused}
use Rattle.verdict_laws.proofs.CaptureVerdictLaws.{counts_rulings, verdicts}
use Rattle.verdict_laws.specs.CleanCapture.{findings_on, verdict_on}
use Rattle.verdict_laws.proofs.CleanCaptureLaws.{handed_append}
use Rattle.verdict_laws.proofs.GoodCaptureLaws.{is_broken, first_not_broken}
use Rattle.verdict_laws.proofs.JudgedFrames.{some_append}
use Rattle.verdict_laws.specs.ListedVerdict.{EndsIn}
use Rattle.verdict_laws.proofs.ListedVerdictLaws.{verdict_told}
use Rattle.slip_verdict_laws.specs.SlipVerdict.{slip_verdict, FoundWithSlip}

-- A broken line that is handed to the judge is a refused mark that counts.

broken_counts : (w : List Answer) (last : Answer) → some is_broken (all_handed w) ≡ true → mark_refused w last ≡ true
broken_counts w last h = go (mark_refused w last) refl
  where
    go : (b : Bool) → mark_refused w last ≡ b → b ≡ true
    go true e = refl
    go false e = absurd (true≢false (sym h ∙ first_not_broken w (cond (is_cut last) [] (last ∷ [])) e))

-- and a mark
broken_came : (w v : List Answer) → some is_broken (all_handed w) ≡ true → some is_answer (w ++ v) ≡ true
broken_came [] v h = absurd (true≢false (sym h))
broken_came (answer.Nothing ∷ w) v h = broken_came w v h
broken_came (answer.Line f ∷ w) v h = refl
broken_came (answer.Gap g ∷ w) v h = refl
broken_came (answer.Refused n ∷ w) v h = refl

-- What nibbles hand over, their answers do; and finish's answer, if it hands over nothing, may be among them or not.

outcomes_handed : (os : List Outcome) → all_handed (map answer_for os) ≡ collected handed_by os
outcomes_handed [] = refl
outcomes_handed (o ∷ os) = ap (λ (ls : List Line). handed_by o ++ ls) (outcomes_handed os)

closed_handed : (os : List Outcome) (o : Outcome) → handed_by o ≡ [] → (b : Bool)
    → all_handed (map answer_for os ++ cond b [] (answer_for o ∷ [])) ≡ collected handed_by os
closed_handed os o h true = ap all_handed (append-nil (map answer_for os)) ∙ outcomes_handed os
closed_handed os o h false =
    handed_append (map answer_for os) (answer_for o ∷ [])
    ∙ ap (λ (ls : List Line). all_handed (map answer_for os) ++ (ls ++ [])) h
    ∙ append-nil (all_handed (map answer_for os))
    ∙ outcomes_handed os

-- A frame is complete exactly where there is another.

abbrev has_frame : List (List Sent) → Bool
has_frame [] = false
has_frame (f ∷ fs) = true

has_complete : (fs : List (List Sent)) → some is_complete (all_complete fs) ≡ has_frame fs
has_complete [] = refl
has_complete (f ∷ fs) =
    some_append is_complete (to_complete (last_place VV5404)) (all_complete fs)
    ∙ ap (λ (b : Bool). b || some is_complete (all_complete fs))
    (some_append is_complete (replicate (last_place VV5404) Going) (Complete ∷ []) ∙ or-true (some is_complete (replicate (last_place VV5404) Going)))

has_either : (fs gs : List (List Sent)) → has_frame (fs ++ gs) ≡ (has_frame fs || has_frame gs)
has_either [] gs = refl
has_either (f ∷ fs) gs = refl

lost_complete : {fs : List (List Sent)} {front back : List Sent} {gs : List (List Sent)} {vs : List Ruling} → OneFrameLost fs front back gs vs
    → some is_complete vs ≡ has_frame (fs ++ gs)
lost_complete {fs} {front} {back} {gs} o =
    let L = lost front back o.more in
    ap (some is_complete) o.rulings_are
    ∙ some_append is_complete (all_complete fs) (L ++ all_complete gs)
    ∙ ap₂ ◌||◌ (has_complete fs) (some_append is_complete L (all_complete gs) ∙ ap₂ ◌||◌ o.none_complete (has_complete gs))
    ∙ sym (has_either fs gs)

-- The verdict.

refused_last : (a b c d e : Bool) → e ≡ true → (a && (b && (c && (d && not e)))) ≡ false
refused_last false b c d e h = refl
refused_last true false c d e h = refl
refused_last true true false d e h = refl
refused_last true true true false e h = refl
refused_last true true true true e h = ap not h

-- on answers of which a broken line is handed over, by whether a frame is complete
broken_verdict : (w : List Answer) (last : Answer) (lost : Bool) → some is_broken (all_handed w) ≡ true → (hs : List (List Sent))
    → frame_complete VV5404 w last ≡ has_frame hs → capture_verdict VV5404 w last lost ≡ slip_verdict hs
broken_verdict w last lost h [] e = (verdicts VV5404 w last lost).not_good.1 (broken_came w (last ∷ []) h, e)
broken_verdict w last lost h (f ∷ hs) e =
    (verdicts VV5404 w last lost).check.1 (
      e,
      refused_last (not lost) (not (frame_broken VV5404 w last)) (not (line_outside VV5404 w)) (few_before VV5404 w) (mark_refused w last) (broken_counts w last h),
    )

-- the law: for every clean profile 0 stream of whole frames, and every slip inside the body of one of its lines
pub slip_found : (fs : List (List Sent)) (front : List Sent) (s : Sent) (back : List Sent) (gs : List (List Sent))
    → AllFrames VV5404 (fs ++ ((front ++ (s ∷ back)) ∷ gs)) → AllWritable VV5404 (all_lines (fs ++ ((front ++ (s ∷ back)) ∷ gs)))
    → (i k : ℕ) → Inside s i k → FoundWithSlip fs front gs (slipped (all_lines fs ++ front) s (back ++ all_lines gs) i k)
slip_found fs front s back gs whole h i k n =
    let p = VV5404 in
    let before : List Sent = all_lines fs ++ front in
    let after : List Sent = back ++ all_lines gs in
    let w : List ℕ = slipped before s after i k in
    let g : AllWritable p (before ++ (s ∷ after)) = subst (AllWritable p) (lines_around fs front s back gs) h in
    let q = slipped_handed before s after g i k n in
    let x : State = run p fresh w in
    let os : List Outcome = outcomes p fresh w in
    let o : Outcome = (finish p x).outcome in
    let told : List Answer = map answer_for os in
    let last : Answer = answer_for o in
    let none_over : handed_by o ≡ []
    = ap (λ (z : State). handed_by (finish p z).outcome) q.all.hands.leads ∙ q.all.at_rest.hands_nothing q.all.to.text none in
    let l : OneFrameLost fs front back gs (capture_rulings p told last)
    = record {
      more = q.more;
      rulings_are = ap (rulings p Waiting) (closed_handed os o none_over (is_unfinished last) ∙ q.all.hands.over) ∙ one_lost fs front s back gs whole q.more;
      none_complete = lost_incomplete front back q.more;
    } in
    let b : some is_broken (all_handed told) ≡ true
    = ap (some is_broken) (outcomes_handed os ∙ q.all.hands.over)
    ∙ some_append is_broken (map judged_line before) ((broken_one ∷ replicate q.more broken_one) ++ map judged_line after)
    ∙ or-true (some is_broken (map judged_line before)) in
    let v : verdict_on p w ≡ slip_verdict (fs ++ gs) = broken_verdict told last (is_lost p x.at (length x.text)) b (fs ++ gs) (lost_complete l) in
    let c = counts_rulings p told last in
    let small : AllNibbles w = all_changed p g (body_start before s + i) (body_start before s + (i + k)) no_nibble in
    record {
      one_uncounted = lost_counted l (findings_on p w).tally c.complete c.broken;
      verdict_is = v;
      verdict_told = subst (λ (u : Verdict). EndsIn (end_text (list_after (fresh_lister p) w)) (verdict_line u)) v (verdict_told p small);
    }

-- and where another frame is whole, the last line that `frames` writes is CHECK THE CLIP
pub slip_checks_the_clip : (fs : List (List Sent)) (front : List Sent) (s : Sent) (back : List Sent) (gs : List (List Sent))
    → AllFrames VV5404 (fs ++ ((front ++ (s ∷ back)) ∷ gs)) → AllWritable VV5404 (all_lines (fs ++ ((front ++ (s ∷ back)) ∷ gs)))
    → (i k : ℕ) → Inside s i k → (f : List Sent) (others : List (List Sent)) → fs ++ gs ≡ f ∷ others
    → EndsIn (end_text (list_after (fresh_lister VV5404) (slipped (all_lines fs ++ front) s (back ++ all_lines gs) i k))) (ascii "CHECK THE CLIP\n")
slip_checks_the_clip fs front s back gs whole h i k n f others e =
    let w : List ℕ = slipped (all_lines fs ++ front) s (back ++ all_lines gs) i k in
    subst (λ (hs : List (List Sent)). EndsIn (end_text (list_after (fresh_lister VV5404) w)) (verdict_line (slip_verdict hs))) e
    (slip_found fs front s back gs whole h i k n).verdict_told
