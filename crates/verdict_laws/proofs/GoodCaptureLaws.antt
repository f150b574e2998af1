-- In a good capture the lines lie frame by frame from the first start of a frame on: the judge never waits there but between two frames, and
-- breaks none.
use Rattle.std.specs.Prelude.{◌≡◌, refl, Bool, true, false, ◌&&◌, not, cond, List, [], ◌∷◌, ◌++◌, ℕ, ◌+◌, ◌≤◌, eqb, leb, ltb, length, None, Option}
use Rattle.std.proofs.Common.{◌∙◌, ap, ap₂, sym, subst, true≢false, append_assoc, append-nil, arith, length-append, ltb-false, eqb-true}
use Rattle.std.proofs.lemmas.Bool.{false≢true, not-true, not-false, lt-leb}
use Rattle.std.proofs.Math.Bool.{and-false}
use Rattle.bits.specs.Every.{and_left, and_right, and_both}
use Rattle.bits.specs.Tests.{or_left, or_right, or_neither}
use Rattle.refusal.specs.declared.Refusal.{Refusal}
use Rattle.refusal.specs.Refusal.{bad_state, end_without_line, damaged_code, no_end_of_line, bad_kind, number_too_large, not_the_line_due, broken_line}
use Rattle.counts.specs.CountsLaws.{some}
use Rattle.line_code.specs.declared.Kind.TheVariants.{EOF}
use Rattle.line_code.specs.LineCode.{kind_number}
use Rattle.line_number.specs.LineNumber.{greatest}
use Rattle.profile.specs.declared.Profile.{Profile}
use Rattle.stream.specs.declared.Answer.{Answer}
use Rattle.stream.specs.declared.Answer.TheVariants as answer
use Rattle.signal_tally.specs.Signal.{refusals, is_cut}
use Rattle.signal_tally.specs.Seen.{from_start}
use Rattle.frame_layout.specs.declared.Borders.{Borders}
use Rattle.frame_judge.specs.declared.Judge.{Judge}
use Rattle.frame_judge.specs.declared.Judge.TheVariants.{Waiting, Due}
use Rattle.frame_judge.specs.declared.Ruling.{Ruling}
use Rattle.frame_judge.specs.declared.Ruling.TheVariants as ruling
use Rattle.frame_judge.specs.declared.Judged.{Judged}
use Rattle.frame_layout.specs.FrameLayout.{last_place}
use Rattle.frame_judge.specs.Frame.{passes, line_due, settled_by, gives, refuses, opens, begun, broken_kind, judge_of}
use Rattle.frame_judge.specs.Calls.{Line, line, called, after, rulings, is_break, accepts, accepted, IsFrame}
use Rattle.frame_handing.specs.Handing.{is_broken_line, hand, as_lines, all_handed}
use Rattle.frame_laws.specs.FrameLaws.{passes_high, rulings_append, after_snoc, accepted_snoc, Effect, wrong_kind, wrong_number, waits, breaks, strays, starts, restarts, goes, ends, effect, reached_passes}
use Rattle.frame_laws.proofs.WholeFrames.{complete_frame}
use Rattle.frame_tally.specs.Tally.{is_unfinished}
use Rattle.verdict.specs.declared.Verdict.TheVariants.{Good}
use Rattle.verdict_laws.specs.CaptureVerdict.{capture_verdict, frame_broken, is_opening, before_first, from_first, is_whole, is_waiting, some_outside, few_before, line_outside, is_refused, mark_refused}
use Rattle.verdict_laws.proofs.CaptureVerdictLaws.{whole_line_lem, verdicts}
use Rattle.verdict_laws.proofs.JudgedFrames.{some_append, some_parts, tail_waits}
use Rattle.verdict_laws.proofs.CleanCaptureLaws.{handed_append}
use Rattle.verdict_laws.specs.GoodCapture.{is_going, all_going, FrameByFrame, unfinished, frame_first}

-- One line.

-- how many lines of its frame the judge has had
abbrev place_of : Judge → ℕ
place_of Waiting = 0
place_of (Due place s) = place

place_high : (p : Profile) (j : Judge) → passes p j ≡ true → place_of j ≤ last_place p
place_high p Waiting h = omega arith
place_high p (Due place s) h = passes_high p place s h

abbrev is_still : Ruling → Bool
is_still ruling.Waiting = true
is_still ruling.Going = false
is_still ruling.Complete = false
is_still (ruling.Refused refusal) = false

-- within a frame no line is answered Waiting
due_ruled : (p : Profile) (place : ℕ) (s : Option Borders) (l : Line) → is_still (called p (Due place s) l).ruling ≡ false
unfolding judge_of
due_ruled p place s l =
    go (passes p (Due place s)) (leb l.kind (kind_number EOF)) (eqb l.kind broken_kind) (leb l.number greatest)
    (line_due p s place l.kind l.number) (ltb place (last_place p)) (opens l.kind l.number)
  where
    r : Bool → Bool → Bool → Bool → Bool → Bool → Bool → Judged
    r a k z n d t o =
        cond a
        (cond k
        (cond z (refuses Waiting broken_line)
        (cond n
        (cond d (cond t (gives (Due (place + 1) (settled_by p s place l.kind)) ruling.Going) (gives Waiting ruling.Complete))
        (cond o (refuses begun not_the_line_due) (refuses Waiting not_the_line_due)))
        (refuses (Due place s) number_too_large)))
        (refuses (Due place s) bad_kind))
        (refuses (Due place s) bad_state)

    go : (a k z n d t o : Bool) → is_still (r a k z n d t o).ruling ≡ false
    go false k z n d t o = refl
    go true false z n d t o = refl
    go true true true n d t o = refl
    go true true false false d t o = refl
    go true true false true true true o = refl
    go true true false true true false o = refl
    go true true false true false t true = refl
    go true true false true false t false = refl

-- where no frame breaks and no line is outside, a line is not accepted and changes nothing, goes on in its frame, or ends it
data Moves (p : Profile) (j : Judge) : Judged → Type 0 where
  kept_kind : Moves p j (refuses j bad_kind)
  kept_number : Moves p j (refuses j number_too_large)
  going : (place : ℕ) (s : Option Borders) → place_of j + 1 ≡ place → Moves p j (gives (Due place s) ruling.Going)
  ending : last_place p ≤ place_of j → Moves p j (gives Waiting ruling.Complete)

moves : (p : Profile) (j : Judge) (l : Line) (r : Judged) → Effect p j l r → is_break r.ruling ≡ false → (is_waiting j && is_waiting r.judge) ≡ false
    → (is_waiting j ≡ false → is_still r.ruling ≡ false) → Moves p j r
moves p j l _ wrong_kind h o s = kept_kind
moves p j l _ wrong_number h o s = kept_number
moves p j l _ waits h o s = go j o s
  where
    go : (j : Judge) → (is_waiting j && true) ≡ false → (is_waiting j ≡ false → true ≡ false) → Moves p j (gives Waiting ruling.Waiting)
    go Waiting o s = absurd (true≢false o)
    go (Due place b) o s = absurd (true≢false (s refl))
moves p j l _ breaks h o s = absurd (true≢false h)
moves p j l _ strays h o s = absurd (true≢false h)
moves p j l _ (starts q e) h o s = going 1 _ (ap (λ (i : Judge). place_of i + 1) q)
moves p j l _ (restarts e) h o s = absurd (true≢false h)
moves p j l _ (goes place b e d g) h o s = going (place + 1) _ (ap (λ (i : Judge). place_of i + 1) e)
moves p j l _ (ends place b e d g) h o s = ending (subst (λ (n : ℕ). last_place p ≤ n) (sym (ap place_of e)) g)

move : (p : Profile) (cur : List Line) (j : Judge) (l : Line) → after p Waiting cur ≡ j → is_whole l ≡ true → is_break (called p j l).ruling ≡ false
    → (is_whole l && (is_waiting j && is_waiting (called p j l).judge)) ≡ false → Moves p j (called p j l)
move p cur j l e w h o =
    moves p j l (called p j l) (effect p j l (subst (λ (i : Judge). passes p i ≡ true) e (reached_passes p cur))) h
    (sym (ap (λ (b : Bool). b && (is_waiting j && is_waiting (called p j l).judge)) w) ∙ o) (still j)
  where
    still : (j : Judge) → is_waiting j ≡ false → is_still (called p j l).ruling ≡ false
    still Waiting n = absurd (true≢false n)
    still (Due place b) n = due_ruled p place b l

-- A whole frame.

going_accepted : (p : Profile) (j : Judge) (ls : List Line) → all_going (rulings p j ls) ≡ true → accepted p j ls ≡ ls
going_accepted p j [] h = refl
going_accepted p j (l ∷ ls) h =
    ap₂ ◌++◌ (ap (λ (b : Bool). cond b (l ∷ []) []) (taken (called p j l).ruling (and_left (is_going (called p j l).ruling) _ h)))
    (going_accepted p (called p j l).judge ls (and_right (is_going (called p j l).ruling) _ h))
  where
    taken : (v : Ruling) → is_going v ≡ true → accepts v ≡ true
    taken ruling.Waiting e = absurd (false≢true e)
    taken ruling.Going e = refl
    taken ruling.Complete e = absurd (false≢true e)
    taken (ruling.Refused refusal) e = absurd (false≢true e)

going_snoc : (p : Profile) (j : Judge) (ls : List Line) (l : Line) → all_going (rulings p j ls) ≡ true → is_going (called p (after p j ls) l).ruling ≡ true
    → all_going (rulings p j (ls ++ (l ∷ []))) ≡ true
going_snoc p j [] l h e = and_both (is_going (called p j l).ruling) _ e refl
going_snoc p j (m ∷ ls) l h e =
    and_both (is_going (called p j m).ruling) _ (and_left (is_going (called p j m).ruling) _ h)
    (going_snoc p (called p j m).judge ls l (and_right (is_going (called p j m).ruling) _ h) e)

-- two ends of a list that are as long
same_end : (front ls ms : List Line) → ls ≡ front ++ ms → length ls ≡ length ms → ls ≡ ms
same_end [] ls ms e n = e
same_end (l ∷ front) ls ms e n = absurd (let x = ap length e in omega (arith, x, n, length-append front ms))

-- the lines that went on, and the one that ends them, are a frame
ended_whole : (p : Profile) (cur : List Line) (l : Line) → all_going (rulings p Waiting cur) ≡ true → (called p (after p Waiting cur) l).ruling ≡ ruling.Complete
    → length cur ≡ last_place p → (b : Borders) × IsFrame p b (cur ++ (l ∷ []))
ended_whole p cur l g v n = go (complete_frame p cur l v)
  where
    all : accepted p Waiting (cur ++ (l ∷ [])) ≡ cur ++ (l ∷ [])
    all =
        accepted_snoc p Waiting cur l
        ∙ ap₂ ◌++◌ (going_accepted p Waiting cur g) (ap (λ (x : Ruling). cond (accepts x) (l ∷ []) []) v)

    go : (b : Borders) × (earlier : List Line) × (frame : List Line) × (accepted p Waiting (cur ++ (l ∷ [])) ≡ earlier ++ frame) × IsFrame p b frame → (b : Borders) × IsFrame p b (cur ++ (l ∷ []))
    go (b, earlier, frame, e, f) =
        let long : length (cur ++ (l ∷ [])) ≡ length frame = (let x = f.0 in omega (arith, x, n, length-append cur (l ∷ []))) in
        (b, subst (IsFrame p b) (sym (same_end earlier (cur ++ (l ∷ [])) frame (sym all ∙ e) long)) f)

-- All lines.

-- a line that is broken
abbrev pub is_broken : Line → Bool
is_broken l = not (is_whole l)

frame_by_frame : (p : Profile) (cur ls : List Line) (j : Judge) → after p Waiting cur ≡ j → length cur ≡ place_of j → all_going (rulings p Waiting cur) ≡ true
    → some is_broken ls ≡ false → some is_break (rulings p j ls) ≡ false → some_outside p j ls ≡ false → FrameByFrame p (cur ++ accepted p j ls)
frame_by_frame p cur [] j e n g w h o =
    subst (FrameByFrame p) (sym (append-nil cur))
    (unfinished cur (let x = place_high p j (subst (λ (i : Judge). passes p i ≡ true) e (reached_passes p cur)) in omega (arith, n, x)) g)
frame_by_frame p cur (l ∷ ls) j e n g w h o =
    let whole : is_whole l ≡ true = not-false (is_whole l) (or_left (is_broken l) _ w) in
    let here : Bool = is_whole l && (is_waiting j && is_waiting (called p j l).judge) in
    let b : is_break (called p j l).ruling ≡ false = or_left (is_break (called p j l).ruling) _ h in
    go (called p j l) refl (move p cur j l e whole b (or_left here _ o)) (or_right (is_broken l) _ w) (or_right (is_break (called p j l).ruling) _ h) (or_right here _ o)
    (frame_by_frame p cur ls j e n g) (frame_by_frame p (cur ++ (l ∷ [])) ls) (frame_by_frame p [] ls Waiting refl refl refl)
  where
    Rest : List Line → Judge → Type 0
    Rest past i = some is_broken ls ≡ false → some is_break (rulings p i ls) ≡ false → some_outside p i ls ≡ false → FrameByFrame p (past ++ accepted p i ls)

    snoc : (r : Judged) → called p j l ≡ r → called p (after p Waiting cur) l ≡ r
    snoc r q = ap (λ (i : Judge). called p i l) e ∙ q

    go : (r : Judged) → called p j l ≡ r → Moves p j r → some is_broken ls ≡ false → some is_break (rulings p r.judge ls) ≡ false → some_outside p r.judge ls ≡ false
        → Rest cur j
        → ((i : Judge) → after p Waiting (cur ++ (l ∷ [])) ≡ i → length (cur ++ (l ∷ [])) ≡ place_of i → all_going (rulings p Waiting (cur ++ (l ∷ []))) ≡ true → Rest (cur ++ (l ∷ [])) i)
        → Rest [] Waiting → FrameByFrame p (cur ++ (cond (accepts r.ruling) (l ∷ []) [] ++ accepted p r.judge ls))
    go _ q kept_kind w h o same longer anew = same w h o
    go _ q kept_number w h o same longer anew = same w h o
    go r q (going place b d) w h o same longer anew =
        subst (FrameByFrame p) (append_assoc cur (l ∷ []) (accepted p (Due place b) ls))
        (longer (Due place b) (after_snoc p Waiting cur l ∙ ap (λ (x : Judged). x.judge) (snoc r q)) (omega (arith, n, d, length-append cur (l ∷ [])))
        (going_snoc p Waiting cur l g (ap (λ (x : Judged). is_going x.ruling) (snoc r q))) w h o)
    go r q (ending d) w h o same longer anew =
        let high = place_high p j (subst (λ (i : Judge). passes p i ≡ true) e (reached_passes p cur)) in
        let f = ended_whole p cur l g (ap (λ (x : Judged). x.ruling) (snoc r q)) (omega (arith, n, d, high)) in
        subst (FrameByFrame p) (append_assoc cur (l ∷ []) (accepted p Waiting ls)) (frame_first f.0 (cur ++ (l ∷ [])) f.1 (anew w h o))

-- From the first start of a frame on.

first_split : (ls : List Line) → (before_first ls ++ from_first ls ≡ ls) × (some is_opening (before_first ls) ≡ false)
first_split [] = (refl, refl)
first_split (l ∷ ls) = go (is_opening l) refl (first_split ls)
  where
    go : (b : Bool) → is_opening l ≡ b → (before_first ls ++ from_first ls ≡ ls) × (some is_opening (before_first ls) ≡ false)
        → (cond b [] (l ∷ before_first ls) ++ cond b (l ∷ ls) (from_first ls) ≡ l ∷ ls) × (some is_opening (cond b [] (l ∷ before_first ls)) ≡ false)
    go true e r = (refl, refl)
    go false e r = (ap {B = List Line} (λ x. l ∷ x) r.0, or_neither (is_opening l) _ e r.1)

from_unbroken : (p : Profile) (ls : List Line) → some is_break (rulings p Waiting ls) ≡ false → some is_break (rulings p Waiting (from_first ls)) ≡ false
from_unbroken p ls h =
    let s = first_split ls in
    or_right (some is_break (rulings p Waiting (before_first ls))) _
    (sym (some_parts is_break p (before_first ls) (from_first ls) (tail_waits p (before_first ls) s.1).0) ∙ ap (λ (x : List Line). some is_break (rulings p Waiting x)) s.0 ∙ h)

from_whole : (ls : List Line) → some is_broken ls ≡ false → some is_broken (from_first ls) ≡ false
from_whole ls h =
    or_right (some is_broken (before_first ls)) _ (sym (some_append is_broken (before_first ls) (from_first ls)) ∙ ap (some is_broken) (first_split ls).0 ∙ h)

-- Where no refused mark counts, no broken line is handed over.

not_handed : (n : ℕ) → is_broken_line n ≡ false → (ls : List Line) → some is_broken ls ≡ false → some is_broken (as_lines (cond (is_broken_line n) (hand broken_kind 0) None) ++ ls) ≡ false
not_handed n e ls h = ap (λ (b : Bool). some is_broken (as_lines (cond b (hand broken_kind 0) None) ++ ls)) e ∙ h

high_not_broken : (r : Refusal) → is_refused (answer.Refused r) ≡ false → is_broken_line r.0 ≡ false
unfolding is_broken_line
high_not_broken r h =
    ap (λ (b : Bool). leb damaged_code r.0 && b) (lt-leb r.0 no_end_of_line (let l = ltb-false r.0 refusals h in omega arith)) ∙ and-false (leb damaged_code r.0)

none_broken : (w v : List Answer) → some is_refused (w ++ v) ≡ false → some is_broken (all_handed w) ≡ false
none_broken [] v h = refl
none_broken (answer.Nothing ∷ w) v h = none_broken w v h
none_broken (answer.Line f ∷ w) v h =
    or_neither (is_broken (line (kind_number f.kind) f.number)) _ (ap not (whole_line_lem f.kind f.number)) (none_broken w v h)
none_broken (answer.Gap g ∷ w) v h = none_broken w v h
none_broken (answer.Refused r ∷ w) v h =
    not_handed r.0 (high_not_broken r (or_left (is_refused (answer.Refused r)) _ h)) (all_handed w) (none_broken w v (or_right (is_refused (answer.Refused r)) _ h))

eight_not_broken : (n : ℕ) → eqb n end_without_line ≡ true → is_broken_line n ≡ false
unfolding is_broken_line
eight_not_broken n e = ap is_broken_line (eqb-true n end_without_line e)

pub first_not_broken : (w v : List Answer) → some is_refused (from_start (w ++ v)) ≡ false → some is_broken (all_handed w) ≡ false
first_not_broken [] v h = refl
first_not_broken (answer.Nothing ∷ w) v h = first_not_broken w v h
first_not_broken (answer.Line f ∷ w) v h = none_broken (answer.Line f ∷ w) v h
first_not_broken (answer.Gap g ∷ w) v h = none_broken w v h
first_not_broken (answer.Refused r ∷ w) v h = go (eqb r.0 end_without_line) refl h
  where
    go : (b : Bool) → eqb r.0 end_without_line ≡ b → some is_refused (cond b (w ++ v) (answer.Refused r ∷ (w ++ v))) ≡ false → some is_broken (all_handed (answer.Refused r ∷ w)) ≡ false
    go true e h = not_handed r.0 (eight_not_broken r.0 e) (all_handed w) (none_broken w v h)
    go false e h = none_broken (answer.Refused r ∷ w) v h

-- the law: in a good capture every line that the judge accepted from the first start of a frame on lies in a whole frame, or in the last one,
-- which the end of the capture cut off
pub good_frames : (p : Profile) (w : List Answer) (last : Answer) (lost : Bool) → capture_verdict p w last lost ≡ Good → FrameByFrame p (accepted p Waiting (from_first (all_handed w)))
good_frames p w last lost good =
    let x : List Answer = cond (is_unfinished last) [] (last ∷ []) in
    let ls : List Line = all_handed w in
    let order = ((verdicts p w last lost).good.0 good).1 in
    let a = and_right (not lost) _ order in
    let b = and_right (not (frame_broken p w last)) _ a in
    let c = and_right (not (line_outside p w)) _ b in
    let d = and_right (few_before p w) _ c in
    let unbroken : some is_break (rulings p Waiting (all_handed (w ++ x))) ≡ false = not-true (frame_broken p w last) (and_left (not (frame_broken p w last)) _ a) in
    let before_end_lem : some is_break (rulings p Waiting ls) ≡ false
    = or_left (some is_break (rulings p Waiting ls)) _
    (sym (some_append is_break (rulings p Waiting ls) (rulings p (after p Waiting ls) (all_handed x)))
    ∙ ap (some is_break) (sym (rulings_append p Waiting ls (all_handed x)) ∙ ap (rulings p Waiting) (sym (handed_append w x)))
    ∙ unbroken) in
    let whole : some is_broken ls ≡ false = first_not_broken w (cond (is_cut last) [] (last ∷ [])) (not-true (mark_refused w last) d) in
    frame_by_frame p [] (from_first ls) Waiting refl refl refl (from_whole ls whole) (from_unbroken p ls before_end_lem) (not-true (line_outside p w) (and_left (not (line_outside p w)) _ b))
