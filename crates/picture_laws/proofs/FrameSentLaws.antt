-- A frame as written is found: the reader gives out each line as sent, whatever came before, and the gatherer shows a frame that comes whole.
use Rattle.std.specs.Prelude.{◌≡◌, refl, Bool, true, false, cond, List, [], ◌∷◌, ◌++◌, map, ℕ, suc, ◌≤◌, length, drop, None}
use Rattle.std.proofs.Common.{sym, ap, ap₂, subst, ◌∙◌, true≢false, append_assoc, append-nil, arith, take_at}
use Rattle.std.proofs.lemmas.List.{map-append}
use Rattle.refusal.specs.Refusal.{broken_line}
use Rattle.line_code.specs.declared.Kind.{Kind}
use Rattle.line_code.specs.declared.Kind.TheVariants.{BL, BK, VL, SOF, EOF}
use Rattle.line_code.specs.declared.Repair.TheVariants.{Clean}
use Rattle.line_code.specs.LineCode.{kind_number}
use Rattle.profile.specs.declared.Profile.TheVariants.{VV5404}
use Rattle.profile.specs.Profile.{longest, width}
use Rattle.profile.specs.Layout.{rules, fits}
use Rattle.profile.specs.LayoutLaws.{rules_length, fits_length, body_small}
use Rattle.stream.specs.Answers.{Outcome, nothing, line, gap, refused, answer_for, buffer_after, good_gap}
use Rattle.stream.specs.Stream.{State, fresh, step, run, outcomes}
use Rattle.stream.specs.Written.{Sent, Writable, AllWritable, no_lines, and_line, start_mark, content, tail, written, stream}
use Rattle.stream.specs.Nibbles.{AllNibbles, no_nibble, and_nibble}
use Rattle.stream.specs.NibblesLaws.{all_nibbles_append}
use Rattle.reader.specs.declared.Reader.{Reader}
use Rattle.reader.specs.Reader.{fresh_reader, feed_of}
use Rattle.reader_laws.proofs.Passes.{passes_test, fresh_ok}
use Rattle.recovery.specs.Calls.{line_in}
use Rattle.recovery.specs.Collected.{nothings, collected, lines}
use Rattle.recovery.specs.CollectedLaws.{collected_append, collected_nothings}
use Rattle.recovery.specs.CleanAnswers.{line_read}
use Rattle.recovery.specs.WrittenLaws.{all_changed}
use Rattle.recovery.specs.ReadBack.{seven, rest_told}
use Rattle.recovery.specs.ReadBackLaws.{outcomes_append}
use Rattle.recovery.proofs.Gaps.{after, back, sent_gap, next_told}
use Rattle.refinement.specs.Refine.{Follows}
use Rattle.refinement.specs.RefineLaws.{fresh_follows, feed_steps}
use Rattle.frame_layout.specs.declared.Borders.{Borders}
use Rattle.frame_judge.specs.declared.Judge.{Judge}
use Rattle.frame_judge.specs.declared.Judge.TheVariants.{Waiting, Due}
use Rattle.frame_judge.specs.declared.Judged.{Judged}
use Rattle.frame_judge.specs.Frame.{passes, refuses, broken_kind, judge_of}
use Rattle.frame_judge.specs.Calls.{called, IsFrame}
use Rattle.frame_judge.specs.Calls as calls
use Rattle.frame_laws.specs.FrameLaws.{reached_passes}
use Rattle.frame_handing.specs.Handing.{is_broken_line, hand, handed_lines}
use Rattle.picture_file.specs.PictureFile.{size}
use Rattle.frame_row.specs.declared.Order.{Order}
use Rattle.frame_row.specs.declared.Keeping.{Keeping}
use Rattle.frame_row.specs.declared.Keeping.TheVariants.{VisiblePixels, WholeLines}
use Rattle.frame_rows.specs.declared.Gatherer.{Gatherer}
use Rattle.frame_row.specs.FrameRow.{kept_row}
use Rattle.frame_rows.specs.FrameRows.{Shown, complete, AfterCall, quiet, after_break, refused_by, by_ruling, handed, handing, take_of}
use Rattle.frame_rows.specs.FrameRows as rows
use Rattle.frame_rows_laws.specs.Gathering.{kept_rows_from, rows_of, Given, call, start, shown, taken, shown_all, lines_of, picture_of, frame_size, CompletesRows, Every, WholeBody, Laid}
use Rattle.frame_rows_laws.specs.Gathering as gathering
use Rattle.frame_rows_laws.proofs.FrameRowsLaws.{frame_size_lem, holds_calls, holds_start}
use Rattle.frame_rows_laws.proofs.PictureLaws.{rows_written}
use Rattle.frame_rows_laws.proofs.WholeFrameLaws.{frame_shown_on}
use Rattle.frame_grabber.specs.FrameGrabber.{fresh_grabber, blank, is_said, After, grab_of}
use Rattle.frame_grabber.specs.Pieces.{joined, grab_pieces, givens, fed_all}
use Rattle.frame_grabber.specs.PieceLaws.{grab_is, pieces_whole}
use Rattle.picture_laws.specs.FrameSent.{shown_line, FrameSent, opens_none, sent_row, sent_from, sent_rows, FrameSaid, FramePictured}
use Rattle.picture_laws.specs.UntilSaidLaws.{given_of, until_said, until_goes, said_stops, until_append, until_calls, quiet_is, seek_until, givens_append, calls_long}
use Rattle.picture_laws.proofs.UnopenedLaws.{unopened_waits}

-- What the gatherer is given, by the meaning's outcomes.

given_outcomes : {w : List ℕ} → AllNibbles w → (r : Reader) (x : State) → Follows VV5404 r x → givens r w ≡ map given_of (outcomes VV5404 x w)
given_outcomes no_nibble r x h = refl
given_outcomes (and_nibble {n} {t} l q) r x h =
    let e = feed_steps VV5404 r x n longest l (body_small VV5404) h in
    ap₂ (λ (o : Outcome) (gs : List Given). given_of o ∷ gs) e.outcome_same (given_outcomes q (feed_of r n longest).reader (step VV5404 x n).state e.follows)

-- the lines that it is shown of an outcome
abbrev shown_of : Outcome → List Shown
shown_of o = shown (handed_lines (answer_for o)) (buffer_after o blank)

shown_collected : (os : List Outcome) → shown_all (map given_of os) ≡ collected shown_of os
shown_collected [] = refl
shown_collected (o ∷ os) = ap (λ (ls : List Shown). shown_of o ++ ls) (shown_collected os)

-- Lines as written.

body_length_lem : (s : Sent) → Writable VV5404 s → length s.body ≡ width
body_length_lem s g = fits_length (rules VV5404 s.kind) s.body g.body_fits ∙ rules_length VV5404 s.kind

line_shown : (s : Sent) → Writable VV5404 s → shown_of (line_read s Clean Clean) ≡ shown_line s ∷ []
line_shown s g =
    ap (λ (body : List ℕ). record { given = calls.line (kind_number s.kind) s.number; body = body } ∷ [])
    (take_at s.body (drop (length s.body) blank) width (body_length_lem s g))

-- after its start mark a line as written shows itself alone
rest_shown : (s : Sent) → Writable VV5404 s → collected shown_of (rest_told s Clean Clean) ≡ shown_line s ∷ []
rest_shown s g =
    collected_append shown_of (nothings (content s)) _
    ∙ ap₂ ◌++◌ (collected_nothings shown_of refl (content s)) (ap₂ ◌++◌ (line_shown s g) (collected_nothings shown_of refl (tail s)))

gap_shown : (s : Sent) → shown_of (sent_gap s) ≡ []
unfolding good_gap
gap_shown s = refl

-- the outcomes of lines after the first start mark: those up to the last line, it, and those after it; and the lines that they show
record LinesTold (os : List Outcome) (ss : List Sent) : Type 0 where
  until : List Outcome
  last : Sent
  rest : List Outcome
  told : os ≡ until ++ (line_read last Clean Clean ∷ rest)
  last_shown : shown_of (line_read last Clean Clean) ≡ shown_line last ∷ []
  all_shown : collected shown_of until ++ (shown_line last ∷ []) ≡ map shown_line ss
  whole : Every WholeBody (collected shown_of until ++ (shown_line last ∷ []))

lines_told : (s : Sent) → Writable VV5404 s → {ss : List Sent} → AllWritable VV5404 ss
    → LinesTold (rest_told s Clean Clean ++ outcomes VV5404 (after s) (stream ss)) (s ∷ ss)
lines_told s g no_lines =
    let none : collected shown_of (nothings (content s) ++ seven) ≡ [] =
    collected_append shown_of (nothings (content s)) seven ∙ ap (λ (ls : List Shown). ls ++ []) (collected_nothings shown_of refl (content s)) in
    record {
      until = nothings (content s) ++ seven;
      last = s;
      rest = nothings (tail s);
      told = append-nil (rest_told s Clean Clean) ∙ sym (append_assoc (nothings (content s)) seven (line_read s Clean Clean ∷ nothings (tail s)));
      last_shown = line_shown s g;
      all_shown = ap (λ (ls : List Shown). ls ++ (shown_line s ∷ [])) none;
      whole = subst (λ (ls : List Shown). Every WholeBody (ls ++ (shown_line s ∷ []))) (sym none) (body_length_lem s g, tt);
    }
lines_told s g (and_line {s = next} {ss = ss} h hs) =
    let r = lines_told next h hs in
    let R : List Outcome = rest_told s Clean Clean in
    let between : List Outcome = seven ++ (sent_gap s ∷ r.until) in
    let shows : collected shown_of (R ++ between) ≡ shown_line s ∷ collected shown_of r.until =
    collected_append shown_of R between
    ∙ ap₂ ◌++◌ (rest_shown s g) (ap (λ (ls : List Shown). ls ++ collected shown_of r.until) (gap_shown s)) in
    record {
      until = R ++ between;
      last = r.last;
      rest = r.rest;
      told =
          ap (λ (os : List Outcome). R ++ os)
          (next_told VV5404 s next g h (stream ss) ∙ ap (λ (os : List Outcome). seven ++ (sent_gap s ∷ os)) r.told)
          ∙ sym (append_assoc R between (line_read r.last Clean Clean ∷ r.rest));
      last_shown = r.last_shown;
      all_shown =
          ap (λ (ls : List Shown). ls ++ (shown_line r.last ∷ [])) shows
          ∙ ap {B = List Shown} (λ ls. shown_line s ∷ ls) r.all_shown;
      whole = subst (λ (ls : List Shown). Every WholeBody (ls ++ (shown_line r.last ∷ []))) (sym shows) (body_length_lem s g, r.whole);
    }

-- The start mark of the first line: no line comes out of it, so nothing is said.

passing : (k : Keeping) (held : List ℕ) (gs : List Given) → passes VV5404 (gathering.calls (start k held) gs).gatherer.judge ≡ true
passing k held gs =
    sym (ap (passes VV5404) (holds_calls k [] (start k held) gs (holds_start k held)).judge)
    ∙ reached_passes VV5404 (lines_of (taken (start k held) gs))

-- nothing is said, and the judge passes its test
abbrev Still : AfterCall → Type 0
Still x = (x.output ≡ rows.nothing) × (passes VV5404 x.gatherer.judge ≡ true)

broken_still : (s : Gatherer) (body held : List ℕ) → passes VV5404 s.judge ≡ true → Still (handed s (record { given = calls.line broken_kind 0; body = body }) held)
unfolding handed refused_by after_break judge_of
broken_still s body held h = by s.judge h
  where
    at : Judged → AfterCall
    at r = by_ruling s (record { given = calls.line broken_kind 0; body = body }) held r.judge r.ruling

    by : (j : Judge) → passes VV5404 j ≡ true → Still (at (called VV5404 j (calls.line broken_kind 0)))
    by Waiting e = (refl, refl)
    by (Due place b) e =
        let q : called VV5404 (Due place b) (calls.line broken_kind 0) ≡ refuses Waiting broken_line = simp e in
        subst (λ (r : Judged). Still (at r)) (sym q) (refl, refl)

outcome_still : (x : AfterCall) (o : Outcome) → line_in o ≡ [] → passes VV5404 x.gatherer.judge ≡ true → Still (call x (given_of o))
unfolding take_of
outcome_still x nothing e h = (refl, h)
outcome_still x (line f body) e h = absurd (let z : ◌≡◌ {A = ℕ} 1 0 = ap length e in omega arith)
outcome_still x (gap g) e h = (refl, h)
outcome_still x (refused n) e h = by (is_broken_line n)
  where
    by : (b : Bool) → Still (handing x.gatherer (cond b (hand broken_kind 0) None) blank x.buffer)
    by true = broken_still x.gatherer _ x.buffer h
    by false = (refl, h)

none_both : {A : Type 0} (k l : List A) → k ++ l ≡ [] → (k ≡ []) × (l ≡ [])
none_both [] l h = (refl, h)
none_both (a ∷ k) l h = (cc, cc)

outcomes_still : (os : List Outcome) → collected line_in os ≡ [] → (x : AfterCall) → Still x → (until_said x (map given_of os)).output ≡ rows.nothing
outcomes_still [] e x q = q.0
outcomes_still (o ∷ os) e x q =
    let n = none_both (line_in o) (collected line_in os) e in
    ap (λ (b : Bool). (cond b x (until_said (call x (given_of o)) (map given_of os))).output) (ap is_said q.0)
    ∙ outcomes_still os n.1 (call x (given_of o)) (outcome_still x o n.0 q.1)

-- A whole frame.

-- calls that go on while nothing is said: a frame that comes whole after them is what is said first
frame_first : (k : Keeping) (held : List ℕ) (before gs : List Given) (g : Given) (l : Shown) (b : Borders) (later : List Given)
    → (until_said (start k held) before).output ≡ rows.nothing → shown (handed_lines g.answer) g.held ≡ l ∷ []
    → IsFrame VV5404 b (lines_of (shown_all gs ++ (l ∷ []))) → Every WholeBody (shown_all gs ++ (l ∷ [])) → frame_size k b ≤ length held
    → (until_said (start k held) (before ++ ((gs ++ (g ∷ [])) ++ later))).output ≡ complete (frame_size k b) (rows_of k (shown_all gs ++ (l ∷ [])))
frame_first k held before gs g l b later q e f w room =
    let x : AfterCall = gathering.calls (start k held) before in
    let y : until_said (start k held) before ≡ x = until_calls before (start k held) q in
    let n : x.output ≡ rows.nothing = sym (ap (λ (z : AfterCall). z.output) y) ∙ q in
    let z : AfterCall = until_said (quiet x.gatherer x.buffer) (gs ++ (g ∷ [])) in
    let c : z.output ≡ complete (frame_size k b) (rows_of k (shown_all gs ++ (l ∷ []))) =
    frame_shown_on until_said until_goes k held before gs g l b e f w (subst (λ (m : ℕ). frame_size k b ≤ m) (sym (calls_long before (start k held))) room) in
    ap (λ (v : AfterCall). v.output)
    (until_append before ((gs ++ (g ∷ [])) ++ later) (start k held)
    ∙ ap (λ (v : AfterCall). until_said v ((gs ++ (g ∷ [])) ++ later)) (y ∙ quiet_is x n)
    ∙ until_append (gs ++ (g ∷ [])) later (quiet x.gatherer x.buffer)
    ∙ said_stops z later (ap is_said c))
    ∙ c

regroup : (a u : List Given) (g : Given) (t l : List Given) → (a ++ (u ++ (g ∷ t))) ++ l ≡ a ++ ((u ++ (g ∷ [])) ++ (t ++ l))
regroup a u g t l =
    append_assoc a (u ++ (g ∷ t)) l
    ∙ ap (λ (v : List Given). a ++ v) (append_assoc u (g ∷ t) l ∙ sym (append_assoc u (g ∷ []) (t ++ l)))

-- The rows.

row_sent : (k : Keeping) (place : ℕ) (kind : Kind) (body : List ℕ) → kept_row k place (kind_number kind) body ≡ sent_row k place kind body
row_sent (VisiblePixels o) place BL body = refl
row_sent (VisiblePixels o) place BK body = refl
row_sent (VisiblePixels o) place VL body = refl
row_sent (VisiblePixels o) place SOF body = refl
row_sent (VisiblePixels o) place EOF body = refl
row_sent WholeLines place kind body = refl

rows_sent_from : (k : Keeping) (place : ℕ) (ss : List Sent) → kept_rows_from k place (map shown_line ss) ≡ sent_from k place ss
rows_sent_from k place [] = refl
rows_sent_from k place (s ∷ ss) = ap₂ ◌++◌ (row_sent k place s.kind s.body) (rows_sent_from k (suc place) ss)

rows_sent : (k : Keeping) (ss : List Sent) → rows_of k (map shown_line ss) ≡ sent_rows k ss
rows_sent k ss = rows_sent_from k 0 ss

-- what a grabber says of nibbles, by the gatherer's calls
says_until : (k : Keeping) (held w : List ℕ) → (grab_of (fresh_grabber k) w held).output ≡ (until_said (start k held) (givens (fresh_reader VV5404) w)).output
says_until k held w =
    ap (λ (a : After). a.output) (grab_is (fresh_grabber k) w held (passes_test _ (fresh_ok VV5404).test))
    ∙ ap (λ (x : AfterCall). x.output) (seek_until w (fresh_reader VV5404) (fresh_grabber k).gatherer held)

-- a frame of one line and more
frame_said : (k : Keeping) (b : Borders) (s : Sent) → Writable VV5404 s → {ss : List Sent} → AllWritable VV5404 ss → IsFrame VV5404 b (lines_of (map shown_line (s ∷ ss)))
    → (held : List ℕ) → frame_size k b ≤ length held → {before : List ℕ} → AllNibbles before → (grab_of (fresh_grabber k) before held).output ≡ rows.nothing
    → (later : List ℕ) → (grab_of (fresh_grabber k) ((before ++ stream (s ∷ ss)) ++ later) held).output ≡ complete (frame_size k b) (sent_rows k (s ∷ ss))
frame_said k b s g {ss} h f held room {before} small none later =
    let R : Reader = fresh_reader VV5404 in
    let w : List ℕ = before ++ stream (s ∷ ss) in
    let x : State = run VV5404 fresh before in
    let B : List Outcome = outcomes VV5404 fresh before in
    let M : List Outcome = outcomes VV5404 x (start_mark s) in
    let opening = back VV5404 s g x in
    let t = lines_told s g h in
    let L : List Given = givens (fed_all R w) later in
    let gs : List Given = map given_of t.until in
    let last : Given = given_of (line_read t.last Clean Clean) in
    let told : outcomes VV5404 fresh w ≡ (B ++ M) ++ (t.until ++ (line_read t.last Clean Clean ∷ t.rest)) =
    outcomes_append VV5404 fresh before (stream (s ∷ ss))
    ∙ ap (λ (os : List Outcome). B ++ os)
    (outcomes_append VV5404 x (written s) (stream ss)
    ∙ ap₂ ◌++◌ opening.told (ap (λ (y : State). outcomes VV5404 y (stream ss)) opening.state)
    ∙ append_assoc M (rest_told s Clean Clean) (outcomes VV5404 (after s) (stream ss))
    ∙ ap (λ (os : List Outcome). M ++ os) t.told)
    ∙ sym (append_assoc B M (t.until ++ (line_read t.last Clean Clean ∷ t.rest))) in
    let all : AllNibbles w = all_nibbles_append small (all_changed VV5404 (and_line g h) 0 0 no_nibble) in
    let same : givens R (w ++ later) ≡ map given_of (B ++ M) ++ ((gs ++ (last ∷ [])) ++ (map given_of t.rest ++ L)) =
    givens_append w later R
    ∙ ap (λ (v : List Given). v ++ L)
    (given_outcomes all R fresh (fresh_follows VV5404)
    ∙ ap (map given_of) told
    ∙ map-append given_of (B ++ M) (t.until ++ (line_read t.last Clean Clean ∷ t.rest))
    ∙ ap (λ (v : List Given). map given_of (B ++ M) ++ v) (map-append given_of t.until (line_read t.last Clean Clean ∷ t.rest)))
    ∙ regroup (map given_of (B ++ M)) gs last (map given_of t.rest) L in
    let first : (until_said (start k held) (map given_of B)).output ≡ rows.nothing =
    ap (λ (v : List Given). (until_said (start k held) v).output) (sym (given_outcomes small R fresh (fresh_follows VV5404)))
    ∙ sym (says_until k held before)
    ∙ none in
    let y : AfterCall = until_said (start k held) (map given_of B) in
    let pass : passes VV5404 y.gatherer.judge ≡ true =
    ap (λ (v : AfterCall). passes VV5404 v.gatherer.judge) (until_calls (map given_of B) (start k held) first) ∙ passing k held (map given_of B) in
    let still : (until_said (start k held) (map given_of (B ++ M))).output ≡ rows.nothing =
    ap (λ (v : List Given). (until_said (start k held) v).output) (map-append given_of B M)
    ∙ ap (λ (v : AfterCall). v.output) (until_append (map given_of B) (map given_of M) (start k held))
    ∙ outcomes_still M opening.opens.no_lines y (first, pass) in
    let lines : shown_all gs ++ (shown_line t.last ∷ []) ≡ map shown_line (s ∷ ss) =
    ap (λ (ls : List Shown). ls ++ (shown_line t.last ∷ [])) (shown_collected t.until) ∙ t.all_shown in
    says_until k held (w ++ later)
    ∙ ap (λ (v : List Given). (until_said (start k held) v).output) same
    ∙ frame_first k held (map given_of (B ++ M)) gs last (shown_line t.last) b (map given_of t.rest ++ L) still t.last_shown
    (subst (λ (ls : List Shown). IsFrame VV5404 b (lines_of ls)) (sym lines) f) (subst (λ (ls : List Shown). Every WholeBody (ls ++ (shown_line t.last ∷ []))) (sym (shown_collected t.until)) t.whole) room
    ∙ ap (λ (ls : List Shown). complete (frame_size k b) (rows_of k ls)) lines
    ∙ ap (complete (frame_size k b)) (rows_sent k (s ∷ ss))

sent_said : (k : Keeping) (b : Borders) {ss : List Sent} → AllWritable VV5404 ss → IsFrame VV5404 b (lines_of (map shown_line ss))
    → (held : List ℕ) → frame_size k b ≤ length held → {before : List ℕ} → AllNibbles before → (grab_of (fresh_grabber k) before held).output ≡ rows.nothing
    → (later : List ℕ) → (grab_of (fresh_grabber k) ((before ++ stream ss) ++ later) held).output ≡ complete (frame_size k b) (sent_rows k ss)
sent_said k b no_lines f held room small none later = absurd (let z = f.0 in omega arith)
sent_said k b (and_line {s = s} g h) f held room small none later = frame_said k b s g h f held room small none later

-- Its file.

kind_laid : (k : Kind) (n : ℕ) (body : List ℕ) → fits (rules VV5404 k) body ≡ true → Laid (record { given = calls.line (kind_number k) n; body = body })
kind_laid BL n body h e = absurd (true≢false (sym e))
kind_laid BK n body h e = absurd (true≢false (sym e))
kind_laid VL n body h e = h
kind_laid SOF n body h e = absurd (true≢false (sym e))
kind_laid EOF n body h e = absurd (true≢false (sym e))

sent_laid : {ss : List Sent} → AllWritable VV5404 ss → Every Laid (map shown_line ss)
sent_laid no_lines = tt
sent_laid (and_line {s = s} g h) = (kind_laid s.kind s.number s.body g.body_fits, sent_laid h)

sent_whole : {ss : List Sent} → AllWritable VV5404 ss → Every WholeBody (map shown_line ss)
sent_whole no_lines = tt
sent_whole (and_line {s = s} g h) = (body_length_lem s g, sent_whole h)

-- the rows are those of a whole frame
sent_completes : (k : Keeping) (b : Borders) {ss : List Sent} → FrameSent b ss → CompletesRows k (map shown_line ss) (frame_size k b) (sent_rows k ss)
sent_completes k b {ss} f =
    let w : Every WholeBody (map shown_line ss) = sent_whole f.writable in
    let n : length (sent_rows k ss) ≡ frame_size k b = sym (ap length (rows_sent k ss)) ∙ frame_size_lem k b (map shown_line ss) f.whole w in
    record {
      borders = b;
      earlier = [];
      frame = map shown_line ss;
      ends = refl;
      whole = f.whole;
      bodies = w;
      shows = sym (rows_sent k ss);
      sized = n;
      used = sym n;
    }

-- whatever nibbles come before a frame as the writer writes it, if a fresh grabber says nothing of them; whatever comes after it; and in whatever
-- pieces the capture is taken: a fresh grabber whose buffer has room for the frame's rows says complete, with exactly those rows
pub frame_written : (k : Keeping) (b : Borders) {ss : List Sent} → FrameSent b ss → (held : List ℕ) → frame_size k b ≤ length held
    → {before : List ℕ} → AllNibbles before → (grab_of (fresh_grabber k) before held).output ≡ rows.nothing
    → (later : List ℕ) (pieces : List (List ℕ)) → joined pieces ≡ (before ++ stream ss) ++ later
    → FrameSaid k b ss (grab_pieces (fresh_grabber k) held pieces).output
frame_written k b f held room small none later pieces e =
    ap (λ (a : After). a.output) (pieces_whole pieces (fresh_grabber k) held (fresh_ok VV5404) ∙ ap (λ (w : List ℕ). grab_of (fresh_grabber k) w held) e)
    ∙ sent_said k b f.writable f.whole held room small none later

nothing_said : (k : Keeping) (held : List ℕ) {before : List ℕ} → AllNibbles before → opens_none (lines VV5404 fresh before) ≡ true
    → (grab_of (fresh_grabber k) before held).output ≡ rows.nothing
nothing_said k held {before} small e =
    says_until k held before
    ∙ ap (λ (gs : List Given). (until_said (start k held) gs).output) (given_outcomes small (fresh_reader VV5404) fresh (fresh_follows VV5404))
    ∙ (unopened_waits before fresh (start k held) e (refl, refl)).0

-- so the first frame of a capture is found, at whatever nibble the capture starts: where no line that comes out before it opens a frame
pub first_frame_found : (k : Keeping) (b : Borders) {ss : List Sent} → FrameSent b ss → (held : List ℕ) → frame_size k b ≤ length held
    → {before : List ℕ} → AllNibbles before → opens_none (lines VV5404 fresh before) ≡ true
    → (later : List ℕ) (pieces : List (List ℕ)) → joined pieces ≡ (before ++ stream ss) ++ later
    → FrameSaid k b ss (grab_pieces (fresh_grabber k) held pieces).output
first_frame_found k b f held room small e = frame_written k b f held room small (nothing_said k held small e)

-- the law: and as a picture it holds exactly the pixels of the frame's visible lines in the order sent, and its file is written
pub first_frame_pictured : (o : Order) (b : Borders) {ss : List Sent} → FrameSent b ss → (held : List ℕ) → size (picture_of b) ≤ length held
    → {before : List ℕ} → AllNibbles before → opens_none (lines VV5404 fresh before) ≡ true
    → (later : List ℕ) (pieces : List (List ℕ)) → joined pieces ≡ (before ++ stream ss) ++ later
    → FramePictured o b ss (grab_pieces (fresh_grabber (VisiblePixels o)) held pieces).output
unfolding sent_completes
first_frame_pictured o b {ss} f held room small e later pieces j =
    let k : Keeping = VisiblePixels o in
    record {
      says = first_frame_found k b f held room small e later pieces j;
      written = λ n. rows_written o (map shown_line ss) (size (picture_of b)) (sent_rows k ss) (sent_completes k b f) n (sent_laid f.writable);
    }
