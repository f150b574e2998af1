-- The verdict that `frames` writes below its list is the one on the nibbles it read: its reader answers as the meaning does, and it finds what
-- the answers bring.
use Rattle.std.specs.Prelude.{◌≡◌, refl, Bool, true, false, List, ◌++◌, map, ℕ, ◌<◌, min, ltb, length, get_or}
use Rattle.std.proofs.Common.{◌∙◌, ap, ap₂, sym, subst, append_assoc, arith, lit≤, lt-ltb, le-ltb, ltb-true, ltb-false}
use Rattle.text.specs.Text.{ascii}
use Rattle.profile.specs.declared.Profile.{Profile}
use Rattle.profile.specs.declared.Profile.TheVariants.{VV5404, VV5300}
use Rattle.profile.specs.Profile.{longest}
use Rattle.profile.specs.LayoutLaws.{body_small}
use Rattle.stream.specs.declared.Answer.{Answer}
use Rattle.stream.specs.declared.Mark.{Mark}
use Rattle.stream.specs.declared.Mark.TheVariants.{NoMark, Open}
use Rattle.stream.specs.Answers.{Outcome, answer_for}
use Rattle.stream.specs.Stream.{State, fresh, finish, run, step, outcomes}
use Rattle.stream.specs.Written.{Sent, nibbles, most_text, AllWritable}
use Rattle.stream.specs.Nibbles.{AllNibbles, no_nibble, and_nibble}
use Rattle.stream.specs.NibblesLaws.{all_nibbles_take, all_nibbles_drop}
use Rattle.reader.specs.declared.Reader.{Reader}
use Rattle.reader_head.specs.Head.{count_stop}
use Rattle.reader.specs.Reader.{fresh_reader, feed_of}
use Rattle.recovery.specs.CutStream.{cut_out}
use Rattle.recovery.specs.WrittenLaws.{all_changed}
use Rattle.refinement.specs.Refine.{Follows}
use Rattle.refinement.specs.RefineLaws.{fresh_follows, feed_steps, finish_steps}
use Rattle.findings.specs.declared.Findings.{Findings}
use Rattle.verdict.specs.declared.Verdict.{Verdict}
use Rattle.findings.specs.Findings.{no_findings, take_of, close_of}
use Rattle.verdict.specs.Verdict.{is_lost, in_order, verdict_of}
use Rattle.signal_report.specs.SignalReport.{signal_lines}
use Rattle.verdict_report.specs.Report.{frames_lines, lost_line, hint_line, advice_line, verdict_line, report_of}
use Rattle.capture_bytes.specs.UnpackedLaws.{nibbles_small as bytes_small}
use Rattle.lister_laws.specs.Lists.{end_to_end, PieceCalls}
use Rattle.list_news.specs.NewsLines.{news_line}
use Rattle.list_frames.specs.declared.FrameLister.{FrameLister}
use Rattle.list_frames.specs.FrameLister.{fresh_lister, after_nibble, list_after, listed_of, last_answer, last_found, lost_at, lister_verdict, end_text}
use Rattle.list_frames.specs.FrameListerLaws.{frames_listed}
use Rattle.frame_laws.specs.SentFrames.{all_lines, AllFrames}
use Rattle.verdict_laws.specs.CaptureVerdict.{found}
use Rattle.verdict_laws.specs.CleanCapture.{HoldsFrame, verdict_on}
use Rattle.verdict_laws.proofs.CleanCaptureLaws.{clean_good}
use Rattle.verdict_laws.specs.ListedVerdict.{EndsIn}

ends_on : (front : List ℕ) {text last : List ℕ} → EndsIn text last → EndsIn (front ++ text) last
ends_on front {text} {last} (above, e) = (front ++ above, ap (λ (t : List ℕ). front ++ t) e ∙ sym (append_assoc front above last))

-- The lister.

-- what a lister holds after nibbles, from a reader that stands for the state s on
record Holds (p : Profile) (f : Findings) (s : State) (w : List ℕ) (l : FrameLister) : Type 0 where
  findings_same : l.findings ≡ found f (map answer_for (outcomes p s w))
  follows : Follows p l.reader (run p s w)

holds : (p : Profile) {w : List ℕ} → AllNibbles w → (f : Findings) (r : Reader) (s : State) → Follows p r s
    → Holds p f s w (list_after (record { reader = r; findings = f }) w)
unfolding after_nibble
holds p no_nibble f r s h = record { findings_same = refl; follows = h }
holds p (and_nibble {n} {t} l q) f r s h =
    let x = feed_steps p r s n longest l (body_small p) h in
    let rest = holds p q (take_of f (answer_for (feed_of r n longest).outcome)).findings (feed_of r n longest).reader (step p s n).state x.follows in
    record {
      findings_same = rest.findings_same ∙ ap (λ (o : Outcome). found (take_of f (answer_for o)).findings (map answer_for (outcomes p (step p s n).state t))) x.outcome_same;
      follows = rest.follows;
    }

-- The signal is lost.

text_held : (p : Profile) → most_text p < count_stop
text_held VV5404 = lit≤ tt
text_held VV5300 = lit≤ tt

-- the reader's count of a text is held above the most of it
lost_held : (p : Profile) (m : Mark) (n : ℕ) → is_lost p m (min n count_stop) ≡ is_lost p m n
unfolding is_lost
lost_held p NoMark n = refl
lost_held p (Open before code) n = go (ltb (most_text p) n) refl
  where
    go : (b : Bool) → ltb (most_text p) n ≡ b → ltb (most_text p) (min n count_stop) ≡ b
    go true e = lt-ltb (most_text p) (min n count_stop) (let l = ltb-true (most_text p) n e in omega (arith, text_held p))
    go false e = le-ltb (most_text p) (min n count_stop) (let l = ltb-false (most_text p) n e in omega arith)

-- The verdict.

by_parts : (f g : Findings) (a b : Answer) (x y : Bool) → f ≡ g → a ≡ b → x ≡ y → verdict_of (close_of f a).findings x ≡ verdict_of (close_of g b).findings y
by_parts f g a b x y e d c = ap₂ (λ (h : Findings) (i : Answer). verdict_of (close_of h i).findings x) e d ∙ ap (verdict_of (close_of g b).findings) c

-- the verdict that a lister would give at the end is the one on the nibbles it listed
pub lister_verdict_lem : (p : Profile) {w : List ℕ} → AllNibbles w → lister_verdict (list_after (fresh_lister p) w) ≡ verdict_on p w
lister_verdict_lem p {w} q =
    let l : FrameLister = list_after (fresh_lister p) w in
    let h = holds p q (no_findings p) (fresh_reader p) fresh (fresh_follows p) in
    let x : State = run p fresh w in
    let s = h.follows.same.head_same in
    by_parts l.findings (found (no_findings p) (map answer_for (outcomes p fresh w))) (last_answer l) (answer_for (finish p x).outcome) (lost_at l) (is_lost p x.at (length x.text))
    h.findings_same (ap answer_for (finish_steps p l.reader x h.follows).outcome_same)
    (ap (λ (k : Profile). is_lost k l.reader.head.at l.reader.head.count) s.profile_same
    ∙ ap₂ (λ (k : Mark) (n : ℕ). is_lost p k n) s.at_same s.count_same
    ∙ lost_held p x.at (length x.text))

report_ends : (f : Findings) (lost : Bool) (v : Verdict) → EndsIn (report_of f lost v) (verdict_line v)
unfolding report_of
report_ends f lost v =
    ends_on (frames_lines f)
    (ends_on (signal_lines f.signal)
    (ends_on (lost_line lost)
    (ends_on (hint_line f.tally.profile (in_order f lost) f.signal.lines f.signal.first) (advice_line v (in_order f lost), refl))))

end_ends : (l : FrameLister) → EndsIn (end_text l) (verdict_line (lister_verdict l))
end_ends l = ends_on (news_line (last_found l).news) (report_ends (last_found l).findings (lost_at l) (lister_verdict l))

-- the law: whatever the nibbles, the text of `frames` ends in the line of the verdict on them
pub verdict_told : (p : Profile) {w : List ℕ} → AllNibbles w → EndsIn (end_text (list_after (fresh_lister p) w)) (verdict_line (verdict_on p w))
verdict_told p {w} q =
    let l : FrameLister = list_after (fresh_lister p) w in
    subst (λ (v : Verdict). EndsIn (end_text l) (verdict_line v)) (lister_verdict_lem p q) (end_ends l)

-- in whatever pieces they came, and whatever the buffers
pub pieces_told : (p : Profile) (pieces : List (List ℕ)) → ((i : ℕ) → get_or (end_to_end pieces) i 0 < 256) → {m : FrameLister} {text : List ℕ}
    → PieceCalls listed_of (fresh_lister p) pieces 0 m text → EndsIn (end_text m) (verdict_line (verdict_on p (nibbles (end_to_end pieces))))
pieces_told p pieces bytes {m} c =
    let w : List ℕ = nibbles (end_to_end pieces) in
    subst (λ (l : FrameLister). EndsIn (end_text l) (verdict_line (verdict_on p w))) (sym (frames_listed c).0) (verdict_told p (bytes_small (end_to_end pieces) bytes))

-- and of a clean capture that holds a whole frame, in GOOD
pub good_told : (p : Profile) {fs : List (List Sent)} → AllFrames p fs → AllWritable p (all_lines fs) → (i n : ℕ) → HoldsFrame fs i n
    → EndsIn (end_text (list_after (fresh_lister p) (cut_out (all_lines fs) i n))) (ascii "GOOD\n")
good_told p {fs} h g i n c =
    let w : List ℕ = cut_out (all_lines fs) i n in
    let small : AllNibbles w = all_nibbles_take (all_nibbles_drop (all_changed p g 0 0 no_nibble) i) n in
    subst (λ (v : Verdict). EndsIn (end_text (list_after (fresh_lister p) w)) (verdict_line v)) (clean_good p h g i n c) (verdict_told p small)
