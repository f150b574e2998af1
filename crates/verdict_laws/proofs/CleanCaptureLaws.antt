-- A clean capture that holds a whole frame is GOOD: the lines that come out are the last of a frame, whole frames, and the first of one; and
-- beside them come only good gaps and what the capture's two ends cut off.
use Rattle.std.specs.Prelude.{◌≡◌, refl, Bool, true, false, not, cond, List, [], ◌∷◌, ◌++◌, map, ℕ, zero, suc, ◌+◌, ◌≤◌, leb, length, take, drop}
use Rattle.std.proofs.Common.{◌∙◌, ap, ap₂, sym, subst, append_assoc, append-nil, arith, length-append, take-append-drop, le-leb, leb-false, le-ltb}
use Rattle.std.proofs.lemmas.Bool.{lt-leb}
use Rattle.bits.specs.Every.{and_both, and_right}
use Rattle.bits.specs.Tests.{or_neither}
use Rattle.counts.specs.CountsLaws.{some}
use Rattle.line_code.specs.LineCode.{kind_number}
use Rattle.profile.specs.declared.Profile.{Profile}
use Rattle.stream.specs.declared.Answer.{Answer}
use Rattle.stream.specs.declared.Mark.{Mark}
use Rattle.stream.specs.declared.Mark.TheVariants.{NoMark, Open}
use Rattle.stream.specs.Answers.{Outcome, nothing, line, gap, refused, answer_for}
use Rattle.stream.specs.Stream.{State, fresh, finish, run, outcomes}
use Rattle.stream.specs.Written.{Sent, most_text, AllWritable, start_mark, content, end_mark, tail, written, stream}
use Rattle.recovery.specs.Calls.{LineOut, line_in, as_sent, up_to_end, ended_by, start_from, lines_from}
use Rattle.recovery.specs.Collected.{collected}
use Rattle.recovery.specs.CleanAnswers.{said}
use Rattle.recovery.specs.CutStream.{cut_out, whole_between, Tidy, tidy_none, tidy_line, tidy_both, Orderly, all_tidy, began_within, LastAnswer, no_mark_read, within_line, within_gap, gap_closed, end_alone, TextShort}
use Rattle.recovery.proofs.CutStreamLaws.{cut_stream}
use Rattle.signal_tally.specs.Signal.{is_cut}
use Rattle.signal_tally.specs.Seen.{from_start}
use Rattle.frame_layout.specs.declared.Borders.{Borders}
use Rattle.frame_layout.specs.declared.Borders.TheVariants.{On}
use Rattle.frame_judge.specs.declared.Judge.TheVariants.{Waiting}
use Rattle.frame_layout.specs.FrameLayout.{last_place}
use Rattle.frame_judge.specs.Calls.{Line, rulings, is_complete, is_break, is_laid_out_at, laid_from, IsFrame}
use Rattle.frame_judge.specs.Calls as calls
use Rattle.frame_handing.specs.Handing.{is_broken_line, handed_lines, all_handed}
use Rattle.frame_laws.specs.SentFrames.{judged_line, judged_lines, all_lines, AllFrames, no_frames, and_frame}
use Rattle.frame_tally.specs.Tally.{is_unfinished}
use Rattle.findings.specs.declared.Findings.{Findings}
use Rattle.findings.specs.declared.Found.{Found}
use Rattle.verdict.specs.declared.Verdict.TheVariants.{Good}
use Rattle.findings.specs.Findings.{no_findings, take_of, close_of}
use Rattle.findings.specs.FindingsLaws.{nothing_found}
use Rattle.verdict.specs.Verdict.{is_lost, verdict_of}
use Rattle.verdict_laws.specs.CaptureVerdict.{found, capture_verdict, before_first, from_first, whole_lines, some_outside, is_refused, mark_refused}
use Rattle.verdict_laws.proofs.CaptureVerdictLaws.{verdicts}
use Rattle.verdict_laws.specs.CleanCapture.{HoldsFrame, verdict_on}
use Rattle.verdict_laws.proofs.JudgedFrames.{some_append, NoStray, front_no_stray, Framed, framed_none, framed_on, frame_framed, Tail, Begins, frame_begins, InPlace, in_place}

-- Which lines lie wholly in the cut.

pub stream_append : (ss ts : List Sent) → length (stream (ss ++ ts)) ≡ length (stream ss) + length (stream ts)
stream_append [] ts = omega arith
stream_append (s ∷ ss) ts = omega (arith, length-append (written s) (stream (ss ++ ts)), length-append (written s) (stream ss), stream_append ss ts)

-- a line as written is its part up to the end code, and a tail
pub tail_after : (s : Sent) → length (written s) ≡ length (up_to_end s) + length (tail s)
tail_after s =
    let a = length-append (start_mark s) (content s ++ (end_mark ++ tail s)) in
    let b = length-append (content s) (end_mark ++ tail s) in
    let c = length-append end_mark (tail s) in
    omega (arith, a, b, c, length-append (start_mark s) (content s ++ end_mark), length-append (content s) end_mark)

-- from a line's start on, where the capture begins before it
from_split : (i o : ℕ) (ss ts : List Sent) → i ≤ o + length (stream ss)
    → (lines_from i o (ss ++ ts) ≡ lines_from i o ss ++ ts)
    × (start_from i o (ss ++ ts) ≡ start_from i o ss)
    × (start_from i o ss + length (stream (lines_from i o ss)) ≡ o + length (stream ss))
from_split i o [] [] h = (refl, refl, refl)
from_split i o [] (t ∷ ts) h =
    let b : leb i o ≡ true = le-leb i o (omega arith) in
    (ap (λ (c : Bool). cond c (t ∷ ts) (lines_from i (o + length (written t)) ts)) b, ap (λ (c : Bool). cond c o (start_from i (o + length (written t)) ts)) b, refl)
from_split i o (s ∷ ss) ts h = go (leb i o) (from_split i next ss ts (omega (arith, h, longer)))
  where
    next : ℕ
    next = o + length (written s)

    longer : length (stream (s ∷ ss)) ≡ length (written s) + length (stream ss)
    longer = length-append (written s) (stream ss)

    go : (b : Bool)
        → (lines_from i next (ss ++ ts) ≡ lines_from i next ss ++ ts)
        × (start_from i next (ss ++ ts) ≡ start_from i next ss)
        × (start_from i next ss + length (stream (lines_from i next ss)) ≡ next + length (stream ss))
        → (cond b (s ∷ (ss ++ ts)) (lines_from i next (ss ++ ts)) ≡ cond b (s ∷ ss) (lines_from i next ss) ++ ts)
        × (cond b o (start_from i next (ss ++ ts)) ≡ cond b o (start_from i next ss))
        × (cond b o (start_from i next ss) + length (stream (cond b (s ∷ ss) (lines_from i next ss))) ≡ o + length (stream (s ∷ ss)))
    go true r = (refl, refl, refl)
    go false r = (r.0, r.1, r.2 ∙ omega (arith, longer))

ended_append : (j o : ℕ) (ss ts : List Sent) → ended_by j o (ss ++ ts) ≡ ended_by j o ss ++ ended_by j (o + length (stream ss)) ts
ended_append j o [] ts = ap (λ (n : ℕ). ended_by j n ts) (omega arith)
ended_append j o (s ∷ ss) ts =
    go (leb (o + length (up_to_end s)) j)
    (ended_append j next ss ts ∙ ap (λ (n : ℕ). ended_by j next ss ++ ended_by j n ts) (omega (arith, length-append (written s) (stream ss))))
  where
    next : ℕ
    next = o + length (written s)

    go : (b : Bool) → ended_by j next (ss ++ ts) ≡ ended_by j next ss ++ ended_by j (o + length (stream (s ∷ ss))) ts
        → cond b (s ∷ ended_by j next (ss ++ ts)) (ended_by j next (ss ++ ts)) ≡ cond b (s ∷ ended_by j next ss) (ended_by j next ss) ++ ended_by j (o + length (stream (s ∷ ss))) ts
    go true r = ap {B = List Sent} (λ l. s ∷ l) r
    go false r = r

-- all of them, where they end before the place
ended_all : (j o : ℕ) (ss : List Sent) → o + length (stream ss) ≤ j → ended_by j o ss ≡ ss
ended_all j o [] h = refl
ended_all j o (s ∷ ss) h =
    let long = length-append (written s) (stream ss) in
    ap (λ (b : Bool). cond b (s ∷ ended_by j (o + length (written s)) ss) (ended_by j (o + length (written s)) ss))
    (le-leb (o + length (up_to_end s)) j (omega (arith, h, long, tail_after s)))
    ∙ ap {B = List Sent} (λ l. s ∷ l) (ended_all j (o + length (written s)) ss (omega (arith, h, long)))

ended_frame : (j o : ℕ) (ss : List Sent) (s : Sent) → o + (length (stream ss) + length (up_to_end s)) ≤ j → ended_by j o (ss ++ (s ∷ [])) ≡ ss ++ (s ∷ [])
ended_frame j o ss s h =
    ended_append j o ss (s ∷ [])
    ∙ ap₂ ◌++◌ (ended_all j o ss (omega arith))
    (ap (λ (b : Bool). cond b (s ∷ []) []) (le-leb (o + length (stream ss) + length (up_to_end s)) j (omega arith)))

-- none of them, where they start at the place or after it
ended_none : (j o : ℕ) (ss : List Sent) → j ≤ o → ended_by j o ss ≡ []
ended_none j o [] h = refl
ended_none j o (s ∷ ss) h =
    ap (λ (b : Bool). cond b (s ∷ ended_by j (o + length (written s)) ss) (ended_by j (o + length (written s)) ss))
    (lt-leb (o + length (up_to_end s)) j (omega (arith, h, length-append (start_mark s) (content s ++ end_mark))))
    ∙ ended_none j (o + length (written s)) ss (omega arith)

-- the first of them
ended_front : (j o : ℕ) (ss : List Sent) → (m : ℕ) × (ended_by j o ss ≡ take m ss)
ended_front j o [] = (0, refl)
ended_front j o (s ∷ ss) = go (leb (o + length (up_to_end s)) j) refl (ended_front j next ss)
  where
    next : ℕ
    next = o + length (written s)

    go : (b : Bool) → leb (o + length (up_to_end s)) j ≡ b → (m : ℕ) × (ended_by j next ss ≡ take m ss)
        → (m : ℕ) × (cond b (s ∷ ended_by j next ss) (ended_by j next ss) ≡ take m (s ∷ ss))
    go true e r = (suc r.0, ap {B = List Sent} (λ l. s ∷ l) r.1)
    go false e r = (0, ended_none j next ss (let l = leb-false (o + length (up_to_end s)) j e in omega (arith, tail_after s)))

-- the last of them
from_back : (i o : ℕ) (ss : List Sent) → (m : ℕ) × (lines_from i o ss ≡ drop m ss)
from_back i o [] = (0, refl)
from_back i o (s ∷ ss) = go (leb i o) (from_back i next ss)
  where
    next : ℕ
    next = o + length (written s)

    go : (b : Bool) → (m : ℕ) × (lines_from i next ss ≡ drop m ss) → (m : ℕ) × (cond b (s ∷ ss) (lines_from i next ss) ≡ drop m (s ∷ ss))
    go true r = (0, refl)
    go false r = (suc r.0, r.1)

-- the lines of a cut that holds those of f: some of the lines before them, they, and some of those after them
record Parts (ss f ts : List Sent) (i n : ℕ) : Type 0 where
  dropped : ℕ
  taken : ℕ
  is : whole_between i (i + n) (ss ++ (f ++ ts)) ≡ drop dropped ss ++ (f ++ take taken ts)

parts : (ss front : List Sent) (s : Sent) (ts : List Sent) (i n : ℕ) → i ≤ length (stream ss)
    → length (stream ss) + (length (stream front) + length (up_to_end s)) ≤ i + n → Parts ss (front ++ (s ∷ [])) ts i n
parts ss front s ts i n a z =
    let f : List Sent = front ++ (s ∷ []) in
    let j : ℕ = i + n in
    let sp = from_split i 0 ss (f ++ ts) (omega arith) in
    let o : ℕ = start_from i 0 ss in
    let back : List Sent = lines_from i 0 ss in
    let at : o + length (stream back) ≡ length (stream ss) = (let x = sp.2 in omega arith) in
    let q : ℕ = o + length (stream back) in
    let b = from_back i 0 ss in
    let e = ended_front j (q + length (stream f)) ts in
    record {
      dropped = b.0;
      taken = e.0;
      is =
          ap₂ (λ (k : ℕ) (l : List Sent). ended_by j k l) sp.1 sp.0
          ∙ ended_append j o back (f ++ ts)
          ∙ ap₂ ◌++◌ (ended_all j o back (omega (arith, at)) ∙ b.1)
          (ended_append j q f ts ∙ ap₂ ◌++◌ (ended_frame j q front s (omega (arith, at))) e.1);
    }

-- Of frames.

all_append : (fs gs : List (List Sent)) → all_lines (fs ++ gs) ≡ all_lines fs ++ all_lines gs
all_append [] gs = refl
all_append (ss ∷ fs) gs = ap (λ (l : List Sent). ss ++ l) (all_append fs gs) ∙ sym (append_assoc ss (all_lines fs) (all_lines gs))

judged_append : (ss ts : List Sent) → judged_lines (ss ++ ts) ≡ judged_lines ss ++ judged_lines ts
judged_append [] ts = refl
judged_append (s ∷ ss) ts = ap {B = List Line} (λ l. judged_line s ∷ l) (judged_append ss ts)

all_framed : (p : Profile) {fs : List (List Sent)} → AllFrames p fs → Framed p (judged_lines (all_lines fs))
all_framed p no_frames = framed_none p
all_framed p (and_frame b {ss = ss} {fs = fs} f h) =
    subst (Framed p) (sym (judged_append ss (all_lines fs))) (framed_on p (judged_lines ss) (judged_lines (all_lines fs)) (frame_framed p b (judged_lines ss) f) (all_framed p h))

front_judged : (p : Profile) {fs : List (List Sent)} → AllFrames p fs → (m : ℕ) → NoStray p Waiting (judged_lines (take m (all_lines fs)))
front_judged p {fs} h m =
    let l = all_lines fs in
    front_no_stray p (judged_lines (take m l)) (judged_lines (drop m l))
    (subst (NoStray p Waiting) (ap judged_lines (sym (take-append-drop m l)) ∙ judged_append (take m l) (drop m l)) (all_framed p h).no_stray)

-- the last lines of frames: the last of one, and whole ones
record Ends (p : Profile) (ss : List Sent) : Type 0 where
  rest : List Sent
  frames : List (List Sent)
  is : ss ≡ rest ++ all_lines frames
  laid : Tail p (judged_lines rest)
  whole : AllFrames p frames

ends_whole : (p : Profile) (fs : List (List Sent)) → AllFrames p fs → Ends p (all_lines fs)
ends_whole p fs h = record { rest = []; frames = fs; is = refl; laid = (On, last_place p, refl, omega arith); whole = h }

ends_within : (p : Profile) (b : Borders) (k : ℕ) (ss : List Sent) (fs : List (List Sent)) → AllFrames p fs → laid_from p b (suc k) (judged_lines ss) ≡ true
    → k + length (judged_lines ss) ≡ last_place p → ((m : ℕ) → Ends p (drop m (all_lines fs))) → (m : ℕ) → Ends p (drop m (ss ++ all_lines fs))
ends_within p b k [] fs h l e more m = more m
ends_within p b k (s ∷ ss) fs h l e more zero = record { rest = s ∷ ss; frames = fs; is = refl; laid = (b, k, l, e); whole = h }
ends_within p b k (s ∷ ss) fs h l e more (suc m) =
    ends_within p b (suc k) ss fs h (and_right (is_laid_out_at p b (suc k) (judged_line s)) _ l) (omega (arith, e)) more m

ends_all : (p : Profile) {fs : List (List Sent)} → AllFrames p fs → (m : ℕ) → Ends p (drop m (all_lines fs))
ends_all p no_frames zero = ends_whole p [] no_frames
ends_all p no_frames (suc m) = ends_whole p [] no_frames
ends_all p (and_frame b {ss = ss} {fs = fs} f h) m = go ss f m (ends_all p h)
  where
    go : (ss : List Sent) → IsFrame p b (judged_lines ss) → (m : ℕ) → ((k : ℕ) → Ends p (drop k (all_lines fs))) → Ends p (drop m (ss ++ all_lines fs))
    go ss f zero more = ends_whole p (ss ∷ fs) (and_frame b f h)
    go [] f (suc m) more = absurd (let e = f.0 in omega arith)
    go (s ∷ ss) f (suc m) more =
        ends_within p b 0 ss fs h (and_right (is_laid_out_at p b 0 (judged_line s)) _ f.1) (let e = f.0 in omega arith) more m

-- frames before, a frame, and frames after it
record Split (p : Profile) (fs : List (List Sent)) (f : List Sent) (gs : List (List Sent)) : Type 0 where
  before : AllFrames p fs
  borders : Borders
  frame : IsFrame p borders (judged_lines f)
  after : AllFrames p gs

split : (p : Profile) (fs : List (List Sent)) (f : List Sent) (gs : List (List Sent)) → AllFrames p (fs ++ (f ∷ gs)) → Split p fs f gs
split p [] f gs (and_frame b x h) = record { before = no_frames; borders = b; frame = x; after = h }
split p (ss ∷ fs) f gs (and_frame b x h) =
    let r = split p fs f gs h in
    record { before = and_frame b x r.before; borders = r.borders; frame = r.frame; after = r.after }

begins : (p : Profile) (b : Borders) (es : List (List Sent)) (f ms : List Line) → AllFrames p es → IsFrame p b f → Begins (judged_lines (all_lines es) ++ (f ++ ms))
begins p b [] f ms no_frames x = frame_begins p b f ms x
begins p b (ss ∷ es) f ms (and_frame c y h) x =
    subst Begins
    (sym (ap (λ (l : List Line). l ++ (f ++ ms)) (judged_append ss (all_lines es)) ∙ append_assoc (judged_lines ss) (judged_lines (all_lines es)) (f ++ ms)))
    (frame_begins p c (judged_lines ss) (judged_lines (all_lines es) ++ (f ++ ms)) y)

-- the lines of the cut are in place
held_in_place : (p : Profile) {fs : List (List Sent)} → AllFrames p fs → (i n : ℕ) → HoldsFrame fs i n → InPlace p (judged_lines (whole_between i (i + n) (all_lines fs)))
held_in_place p {fs} h i n c =
    let f : List Sent = c.front ++ (c.last_line ∷ []) in
    let ss : List Sent = all_lines c.earlier in
    let ts : List Sent = all_lines c.later in
    let s = split p c.earlier f c.later (subst (AllFrames p) c.one_of h) in
    let q = parts ss c.front c.last_line ts i n c.starts_after c.ends_before in
    let e = ends_all p s.before q.dropped in
    let es : List Sent = all_lines e.frames in
    let ms : List Sent = take q.taken ts in
    let lines : whole_between i (i + n) (all_lines fs) ≡ e.rest ++ (es ++ (f ++ ms))
    = ap (λ (l : List (List Sent)). whole_between i (i + n) (all_lines l)) c.one_of
    ∙ ap (whole_between i (i + n)) (all_append c.earlier (f ∷ c.later))
    ∙ q.is
    ∙ ap (λ (l : List Sent). l ++ (f ++ ms)) e.is
    ∙ append_assoc e.rest es (f ++ ms) in
    let judged : judged_lines (e.rest ++ (es ++ (f ++ ms))) ≡ judged_lines e.rest ++ (judged_lines es ++ (judged_lines f ++ judged_lines ms))
    = judged_append e.rest (es ++ (f ++ ms))
    ∙ ap (λ (l : List Line). judged_lines e.rest ++ l) (judged_append es (f ++ ms) ∙ ap (λ (l : List Line). judged_lines es ++ l) (judged_append f ms)) in
    subst (InPlace p) (sym (ap judged_lines lines ∙ judged))
    (in_place p s.borders (judged_lines e.rest) (judged_lines es) (judged_lines f) (judged_lines ms) e.laid (all_framed p e.whole) s.frame (front_judged p s.after q.taken)
    (begins p s.borders e.frames (judged_lines f) (judged_lines ms) e.whole s.frame))

-- What is handed to the judge.

-- a line that comes out, as it is handed over
abbrev out_line : LineOut → Line
out_line l = calls.line (kind_number l.kind) l.number

tidy_handed : {os : List Outcome} → Tidy os → all_handed (map answer_for os) ≡ map out_line (collected line_in os)
tidy_handed tidy_none = refl
tidy_handed tidy_line = refl
tidy_handed (tidy_both {f = f} t) = ap {B = List Line} (λ l. calls.line (kind_number f.kind) f.number ∷ l) (tidy_handed t)

orderly_handed : {os : List Outcome} → Orderly os → all_handed (map answer_for os) ≡ map out_line (collected line_in os)
unfolding is_broken_line
orderly_handed (all_tidy t) = tidy_handed t
orderly_handed (began_within t) = tidy_handed t

sent_handed : (ss : List Sent) → map out_line (map as_sent ss) ≡ judged_lines ss
sent_handed [] = refl
sent_handed (s ∷ ss) = ap {B = List Line} (λ l. judged_line s ∷ l) (sent_handed ss)

pub handed_append : (v w : List Answer) → all_handed (v ++ w) ≡ all_handed v ++ all_handed w
handed_append [] w = refl
handed_append (a ∷ v) w = ap (λ (l : List Line). handed_lines a ++ l) (handed_append v w) ∙ sym (append_assoc (handed_lines a) (all_handed v) (all_handed w))

-- of finish's answer nothing is
last_handed : {os : List Outcome} {o : Outcome} → LastAnswer os o → all_handed (cond (is_unfinished (answer_for o)) [] (answer_for o ∷ [])) ≡ []
unfolding is_broken_line
last_handed no_mark_read = refl
last_handed within_line = refl
last_handed within_gap = refl
last_handed gap_closed = refl
last_handed end_alone = refl

-- Refused marks.

tidy_none_refused : {os : List Outcome} → Tidy os → some is_refused (map answer_for os) ≡ false
tidy_none_refused tidy_none = refl
tidy_none_refused tidy_line = refl
tidy_none_refused (tidy_both t) = tidy_none_refused t

-- finish's answer counts as none, where it comes after others and where it comes alone
abbrev unless_cut : Answer → List Answer
unless_cut last = cond (is_cut last) [] (last ∷ [])

after_others : {first : Outcome} {os : List Outcome} {o : Outcome} → LastAnswer (first ∷ os) o → some is_refused (unless_cut (answer_for o)) ≡ false
after_others within_line = refl
after_others within_gap = refl
after_others gap_closed = refl

alone : {o : Outcome} → LastAnswer [] o → some is_refused (from_start (unless_cut (answer_for o))) ≡ false
alone no_mark_read = refl
alone within_line = refl
alone within_gap = refl
alone gap_closed = refl
alone end_alone = refl

with_last : {os : List Outcome} → Tidy os → (last : Answer) → some is_refused (unless_cut last) ≡ false → some is_refused (map answer_for os ++ unless_cut last) ≡ false
with_last {os} t last h = some_append is_refused (map answer_for os) (unless_cut last) ∙ or_neither (some is_refused (map answer_for os)) _ (tidy_none_refused t) h

orderly_none_refused : {os : List Outcome} {o : Outcome} → Orderly os → LastAnswer os o → mark_refused (map answer_for os) (answer_for o) ≡ false
orderly_none_refused (all_tidy tidy_none) l = alone l
orderly_none_refused (all_tidy tidy_line) l = after_others l
orderly_none_refused {o = o} (all_tidy (tidy_both t)) l = with_last t (answer_for o) (after_others l)
orderly_none_refused {o = o} (began_within t) l = with_last t (answer_for o) (after_others l)

-- The verdict.

-- on answers in order with these lines
pub orderly_good : (p : Profile) {os : List Outcome} {o : Outcome} → Orderly os → LastAnswer os o → (ss : List Sent) → collected line_in os ≡ map as_sent ss
    → InPlace p (judged_lines ss) → capture_verdict p (map answer_for os) (answer_for o) false ≡ Good
orderly_good p {os} {o} h l ss e x =
    let w : List Answer = map answer_for os in
    let last : Answer = answer_for o in
    let handed : all_handed w ≡ judged_lines ss = orderly_handed h ∙ ap (map out_line) e ∙ sent_handed ss in
    let closed : all_handed (w ++ cond (is_unfinished last) [] (last ∷ [])) ≡ judged_lines ss
    = handed_append w (cond (is_unfinished last) [] (last ∷ [])) ∙ ap (λ (v : List Line). all_handed w ++ v) (last_handed l) ∙ append-nil (all_handed w) ∙ handed in
    (verdicts p w last false).good.1 (
      ap (λ (v : List Line). some is_complete (rulings p Waiting v)) closed ∙ x.complete,
      and_both _ _ (ap (λ (v : List Line). not (some is_break (rulings p Waiting v))) closed ∙ ap not x.unbroken)
          (and_both _ _ (ap (λ (v : List Line). not (some_outside p Waiting (from_first v))) handed ∙ ap not x.none_outside)
          (and_both _ _ (ap (λ (v : List Line). leb (length (whole_lines (before_first v))) (last_place p)) handed ∙ x.few) (ap not (orderly_none_refused h l)))),
    )

-- nothing is found where nothing is answered
said_found : (f : Findings) (os : List Outcome) → found f (map answer_for os) ≡ found f (map answer_for (said os))
said_found f [] = refl
said_found f (nothing ∷ os) = ap (λ (g : Found). found g.findings (map answer_for os)) (nothing_found f) ∙ said_found f os
said_found f (line l body ∷ os) = said_found (take_of f (answer_for (line l body))).findings os
said_found f (gap g ∷ os) = said_found (take_of f (answer_for (gap g))).findings os
said_found f (refused n ∷ os) = said_found (take_of f (answer_for (refused n))).findings os

said_lines : (os : List Outcome) → collected line_in (said os) ≡ collected line_in os
said_lines [] = refl
said_lines (nothing ∷ os) = said_lines os
said_lines (line f body ∷ os) = ap (λ (l : List LineOut). line_in (line f body) ++ l) (said_lines os)
said_lines (gap g ∷ os) = said_lines os
said_lines (refused n ∷ os) = said_lines os

-- where the last mark's text is short, the signal is not lost
not_lost : (p : Profile) (x : State) → TextShort p x → is_lost p x.at (length x.text) ≡ false
unfolding is_lost
not_lost p x h = go x.at refl
  where
    go : (m : Mark) → x.at ≡ m → is_lost p m (length x.text) ≡ false
    go NoMark e = refl
    go (Open before code) e = le-ltb (most_text p) (length x.text) (h before code e)

-- the law: whole frames as written one after another, cut anywhere at both ends so that one is left whole
pub clean_good : (p : Profile) {fs : List (List Sent)} → AllFrames p fs → AllWritable p (all_lines fs) → (i n : ℕ) → HoldsFrame fs i n
    → verdict_on p (cut_out (all_lines fs) i n) ≡ Good
clean_good p {fs} h g i n c =
    let w : List ℕ = cut_out (all_lines fs) i n in
    let x : State = run p fresh w in
    let os : List Outcome = outcomes p fresh w in
    let last : Answer = answer_for (finish p x).outcome in
    let cut = cut_stream p g i n in
    ap (λ (f : Findings). verdict_of (close_of f last).findings (is_lost p x.at (length x.text))) (said_found (no_findings p) os)
    ∙ ap (capture_verdict p (map answer_for (said os)) last) (not_lost p x cut.text_short)
    ∙ orderly_good p cut.answers_orderly cut.finish_answers (whole_between i (i + n) (all_lines fs)) (said_lines os ∙ cut.lines_whole) (held_in_place p h i n c)
