-- What is left of a slipped line hands broken lines to the judge, one at least, and nothing else: no text in it is as long as a line's, so the line's
-- own mark is answered 4 and no mark is answered with a line.
use Rattle.std.specs.Prelude.{◌≡◌, refl, Bool, true, false, cond, List, [], ◌∷◌, ◌++◌, ℕ, ◌+◌, ◌*◌, ◌/◌, ◌%◌, ◌<◌, length, replicate, None}
use Rattle.std.proofs.Common.{◌∙◌, ap, ap₂, sym, true≢false, append_assoc, append-nil, arith, length-append, ne_eqb}
use Rattle.std.proofs.Math.Option.{Option, none, some}
use Rattle.std.proofs.lemmas.List.{replicate-append-replicate}
use Rattle.refusal.specs.Refusal.{wrong_length}
use Rattle.line_code.specs.declared.Kind.{Kind}
use Rattle.line_code.specs.declared.Meaning.TheVariants.{EndOfLine, Line}
use Rattle.line_code.specs.declared.Reading.{Reading}
use Rattle.line_code.specs.declared.Reading.TheVariants.{Says}
use Rattle.line_code.specs.declared.Repair.{Repair}
use Rattle.line_code.specs.declared.Repair.TheVariants.{Clean}
use Rattle.line_code.specs.LineCode.{clean_byte, reading_of, is_end}
use Rattle.line_code.specs.LineCodeLaws.{clean_reading}
use Rattle.profile.specs.declared.Profile.{Profile}
use Rattle.profile.specs.declared.Profile.TheVariants.{VV5404}
use Rattle.profile.specs.Profile.{body_length}
use Rattle.stream.specs.declared.Before.{Before}
use Rattle.stream.specs.declared.Mark.{Mark}
use Rattle.stream.specs.declared.Mark.TheVariants.{NoMark, Open}
use Rattle.stream.specs.Answers.{Outcome, nothing, line, gap, refused, is_line, require, bytes_onto, line_from, line_nibbles, by_reading, answer_of}
use Rattle.stream.proofs.TextLengthLaws.{bytes_length}
use Rattle.stream.specs.Stream.{State, Completed, not_yet, mark, group, strip, mark_if, detect, answer_at, advance, run}
use Rattle.stream.specs.Written.{Sent, Writable, mark_of, start_mark, end_mark, tail}
use Rattle.frame_judge.specs.Calls as judged
use Rattle.frame_handing.specs.Handing.{is_broken_line, hand, as_lines}
use Rattle.frame_judge.specs.Frame.{broken_kind}
use Rattle.recovery.specs.Calls.{mark_nibbles}
use Rattle.recovery.specs.Collected.{collected}
use Rattle.recovery.specs.CollectedLaws.{collected_nothings}
use Rattle.recovery.specs.Resync.{state_with, opened, becomes}
use Rattle.recovery.specs.ResyncLaws.{byte_joined}
use Rattle.recovery.specs.MarkFreeLaws.{NoGroup, no_mark}
use Rattle.recovery.specs.ReadBack.{gap_text}
use Rattle.recovery.specs.ReadBackLaws.{run_append, no_group_gap, read_small}
use Rattle.slip_laws.specs.ShortTexts.{other_length, text_before}
use Rattle.slip_laws.proofs.SlipLaws.{with_content}
use Rattle.slip_laws.specs.Handed.{handed_by, lines_handed, HandsOver, hands_over_then, AtRest, HandsToRest, end_unhanded, mark_handed}

-- a broken line, as it is handed to the judge
abbrev pub broken_one : judged.Line
broken_one = judged.line broken_kind 0

-- Broken lines only.

-- an outcome that is no line hands over a broken line, or nothing
none_whole : (o : Outcome) → is_line o ≡ false → (n : ℕ) × (handed_by o ≡ replicate n broken_one)
none_whole nothing h = (0, refl)
none_whole (line f body) h = absurd (true≢false h)
none_whole (gap g) h = (0, refl)
none_whole (refused n) h = go (is_broken_line n)
  where
    go : (b : Bool) → (m : ℕ) × (as_lines (cond b (hand broken_kind 0) None) ≡ replicate m broken_one)
    go true = (1, refl)
    go false = (0, refl)

-- nibbles that leave no room for a line's text and a mark after it hand over broken lines only
only_broken : (p : Profile) (s : State) (w : List ℕ) → length s.text + length w < line_nibbles p + mark_nibbles → (n : ℕ) × (lines_handed p s w ≡ replicate n broken_one)
only_broken p s [] h = (0, refl)
only_broken p s (n ∷ w) h = go (detect (n ∷ s.text)) refl (λ x. only_broken p x w)
  where
    go : (d : Completed) → detect (n ∷ s.text) ≡ d
        → ((x : State) → length x.text + length w < line_nibbles p + mark_nibbles → (k : ℕ) × (lines_handed p x w ≡ replicate k broken_one))
        → (k : ℕ) × (handed_by (advance p s.at (n ∷ s.text) d).outcome ++ lines_handed p (advance p s.at (n ∷ s.text) d).state w ≡ replicate k broken_one)
    go not_yet e more = more (state_with s.at (n ∷ s.text)) (omega arith)
    go (mark x y before) e more =
        let l = text_before n s.text x y before e in
        let a = none_whole (answer_at p s.at before (some (16 * x + y))) (other_length p s.at before (16 * x + y) (λ q. omega arith)) in
        let b = more (advance p s.at (n ∷ s.text) (mark x y before)).state (omega arith) in
        (a.0 + b.0, ap₂ ◌++◌ a.1 b.1 ∙ replicate-append-replicate a.0 b.0 broken_one)

-- One at least.

-- a line's text of another length is refused 4
wrong_length_lem : (p : Profile) (k : Kind) (r : Repair) (t : List ℕ) (next : Reading) → (length t ≡ line_nibbles p → ⊥)
    → line_from p k r (bytes_onto t []) next ≡ refused wrong_length
unfolding require
wrong_length_lem p k r t next h = go (bytes_onto t []) refl
  where
    go : (o : Option (List ℕ)) → bytes_onto t [] ≡ o → line_from p k r o next ≡ refused wrong_length
    go none e = refl
    go (some []) e = refl
    go (some (c ∷ [])) e = refl
    go (some (c ∷ a ∷ [])) e = refl
    go (some (c ∷ a ∷ b ∷ body)) e =
        let l = bytes_length t [] (c ∷ a ∷ b ∷ body) e in
        simp (ne_eqb (length body) (body_length p) (λ q. h (omega arith)))

-- so is a line's mark with such a text, and that is a broken line
short_four : (p : Profile) (before : Before) (c : ℕ) (k : Kind) → reading_of c ≡ Says (Line k) Clean → (t : List ℕ) (next : ℕ) → (length t ≡ line_nibbles p → ⊥)
    → handed_by (answer_of p before c t (some next)) ≡ broken_one ∷ []
unfolding answer_of is_broken_line
short_four p before c k e t next h =
    ap (λ (x : Reading). handed_by (by_reading p before x t (some next))) e ∙ ap handed_by (wrong_length_lem p k Clean t (reading_of next) h)

-- while a line's mark is open, either no mark is completed, or broken lines are handed over, one at least
data OpenOrBroken (p : Profile) (m : Mark) (s : State) (w : List ℕ) : Type 0 where
  still_open : (run p s w).at ≡ m → OpenOrBroken p m s w
  breaks : (n : ℕ) → lines_handed p s w ≡ broken_one ∷ replicate n broken_one → OpenOrBroken p m s w

first_broken : (p : Profile) (before : Before) (c : ℕ) (k : Kind) → reading_of c ≡ Says (Line k) Clean → (t w : List ℕ)
    → length t + length w < line_nibbles p + mark_nibbles → OpenOrBroken p (Open before c) (state_with (Open before c) t) w
first_broken p before c k r t [] h = still_open refl
first_broken p before c k r t (n ∷ w) h = go (detect (n ∷ t)) refl (first_broken p before c k r (n ∷ t) w (omega arith))
  where
    m : Mark
    m = Open before c

    over : Completed → List judged.Line
    over d = handed_by (advance p m (n ∷ t) d).outcome ++ lines_handed p (advance p m (n ∷ t) d).state w

    go : (d : Completed) → detect (n ∷ t) ≡ d → OpenOrBroken p m (state_with m (n ∷ t)) w → OpenOrBroken p m (state_with m t) (n ∷ w)
    go not_yet e (still_open o) = still_open (ap (λ (d : Completed). (run p (advance p m (n ∷ t) d).state w).at) e ∙ o)
    go not_yet e (breaks i o) = breaks i (ap over e ∙ o)
    go (mark x y first) e o =
        let l = text_before n t x y first e in
        let b = only_broken p (advance p m (n ∷ t) (mark x y first)).state w (omega arith) in
        breaks b.0 (ap over e ∙ ap₂ ◌++◌ (short_four p before c k r first (16 * x + y) (λ q. omega arith)) b.1)

-- from any state a mark as written is open at its end
lands : (p : Profile) (x : State) (c : ℕ) → (b : Before) × (run p x (mark_of c) ≡ opened b c)
lands p x c = one x.text
  where
    w : List ℕ
    w = 15 ∷ 15 ∷ 0 ∷ 0 ∷ c / 16 ∷ c % 16 ∷ []

    three : (m : Mark) (t : List ℕ) → (b : Before) × (run p (state_with m (15 ∷ 15 ∷ t)) w ≡ opened b c)
    three m t = (becomes p m t c, ap (λ (b : ℕ). state_with (Open (becomes p m t b) b) (c % 16 ∷ c / 16 ∷ [])) (byte_joined c))

    two : (m : Mark) (t : List ℕ) → (b : Before) × (run p (state_with m (15 ∷ t)) (15 ∷ w) ≡ opened b c)
    two m t = go (strip group t)
      where
        go : (o : Option (List ℕ)) → (b : Before) × (run p (advance p m (15 ∷ 15 ∷ t) (mark_if 15 15 o)).state w ≡ opened b c)
        go none = three m t
        go (some r) = three (Open (becomes p m r 255) 255) []

    one : (t : List ℕ) → (b : Before) × (run p (state_with x.at t) (15 ∷ 15 ∷ w) ≡ opened b c)
    one [] = two x.at []
    one (z ∷ t) = go (strip group t)
      where
        go : (o : Option (List ℕ)) → (b : Before) × (run p (advance p x.at (15 ∷ z ∷ t) (mark_if z 15 o)).state (15 ∷ w) ≡ opened b c)
        go none = two x.at (z ∷ t)
        go (some r) = two (Open (becomes p x.at r (16 * z + 15)) (16 * z + 15)) (z ∷ [])

-- The parts of what is left.

-- the gap after an end mark hands nothing over
gap_handed : (s : Sent) → Writable VV5404 s → (before : Before) → HandsToRest (opened before (clean_byte EndOfLine)) (tail s) []
gap_handed s g before =
    let p = VV5404 in
    let e = clean_byte EndOfLine in
    let n : NoGroup (gap_text e s) = no_group_gap p s g e (read_small e Clean EndOfLine (clean_reading EndOfLine)) in
    let l = no_mark p (Open before e) (e % 16 ∷ e / 16 ∷ []) (tail s) n in
    record {
      to = state_with (Open before e) (gap_text e s);
      hands = record { over = ap (collected handed_by) l.told ∙ collected_nothings handed_by refl (tail s); leads = l.state };
      at_rest = record { no_group = n; hands_nothing = end_unhanded before e (clean_reading EndOfLine) };
    }

-- number, what is left of the body, and the end mark: broken lines only, one at least
left_broken : (s : Sent) (w : List ℕ) → 2 + length w < line_nibbles VV5404 → (before : Before)
    → (n : ℕ) × (lines_handed VV5404 (opened before (clean_byte (Line s.kind))) (w ++ end_mark) ≡ broken_one ∷ replicate n broken_one)
left_broken s w h before = go (first_broken p before c s.kind r (c % 16 ∷ c / 16 ∷ []) (w ++ end_mark) (omega (arith, h, length-append w end_mark)))
  where
    p : Profile
    p = VV5404

    c : ℕ
    c = clean_byte (Line s.kind)

    r : reading_of c ≡ Says (Line s.kind) Clean
    r = clean_reading (Line s.kind)

    code_at : Mark → ℕ
    code_at NoMark = 0
    code_at (Open b d) = d

    go : OpenOrBroken p (Open before c) (opened before c) (w ++ end_mark) → (n : ℕ) × (lines_handed p (opened before c) (w ++ end_mark) ≡ broken_one ∷ replicate n broken_one)
    go (breaks n e) = (n, e)
    go (still_open e) =
        let l = lands p (run p (opened before c) w) (clean_byte EndOfLine) in
        let f : c ≡ clean_byte EndOfLine =
        ap code_at (sym e ∙ ap (λ (y : State). y.at) (run_append p (opened before c) w end_mark ∙ l.1)) in
        absurd (true≢false (sym (ap is_end (clean_reading EndOfLine)) ∙ ap (λ (d : ℕ). is_end (reading_of d)) (sym f) ∙ ap is_end r))

-- the law: all of it, from a state at rest
pub record HandsBroken (x : State) (w : List ℕ) : Type 0 where
  pub more : ℕ
  pub all : HandsToRest x w (broken_one ∷ replicate more broken_one)

pub left_handed : (s : Sent) → Writable VV5404 s → (w : List ℕ) → 2 + length w < line_nibbles VV5404 → (x : State) → AtRest x → HandsBroken x (with_content s w)
left_handed s g w h x q =
    let p = VV5404 in
    let start = clean_byte (Line s.kind) in
    let k = becomes p x.at x.text start in
    let y = opened k start in
    let b = left_broken s w h k in
    let l = lands p (run p y w) (clean_byte EndOfLine) in
    let t = gap_handed s g l.0 in
    let middle : HandsOver p y (w ++ end_mark) (broken_one ∷ replicate b.0 broken_one) (opened l.0 (clean_byte EndOfLine))
    = record { over = b.1; leads = run_append p y w end_mark ∙ l.1 } in
    let whole = hands_over_then (mark_handed x q start) (hands_over_then middle t.hands) in
    record {
      more = b.0;
      all = record {
        to = t.to;
        hands = record {
          over = ap (λ (v : List ℕ). lines_handed p x (start_mark s ++ v)) (sym (append_assoc w end_mark (tail s))) ∙ whole.over ∙ append-nil (broken_one ∷ replicate b.0 broken_one);
          leads = ap (λ (v : List ℕ). run p x (start_mark s ++ v)) (sym (append_assoc w end_mark (tail s))) ∙ whole.leads;
        };
        at_rest = t.at_rest;
      };
    }
