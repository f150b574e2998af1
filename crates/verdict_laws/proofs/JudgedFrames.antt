-- The judge over the last lines of a frame, whole frames and the first lines of one: the first of these it waits through, and of the rest it
-- finds none outside a frame and none out of its place.
use Rattle.std.specs.Prelude.{◌≡◌, refl, Bool, true, false, ◌&&◌, ◌||◌, cond, List, [], ◌∷◌, ◌++◌, ℕ, zero, suc, ◌+◌, ◌≤◌, leb, length}
use Rattle.std.proofs.Common.{◌∙◌, ap, sym, subst, true≢false, append-nil, arith, le-leb}
use Rattle.std.proofs.Math.Bool.{or-true, or_assoc, and-false}
use Rattle.bits.specs.Every.{and_left, and_right}
use Rattle.bits.specs.Tests.{or_left, or_right, or_neither}
use Rattle.counts.specs.CountsLaws.{some}
use Rattle.profile.specs.declared.Profile.{Profile}
use Rattle.frame_layout.specs.declared.Borders.{Borders}
use Rattle.frame_judge.specs.declared.Judge.{Judge}
use Rattle.frame_judge.specs.declared.Judge.TheVariants.{Waiting}
use Rattle.frame_judge.specs.declared.Ruling.{Ruling}
use Rattle.frame_judge.specs.declared.Ruling.TheVariants as ruling
use Rattle.frame_judge.specs.declared.Judged.{Judged}
use Rattle.frame_layout.specs.FrameLayout.{last_place}
use Rattle.frame_judge.specs.Calls.{Line, called, after, rulings, is_complete, is_break, is_laid_out_at, laid_from, IsFrame}
use Rattle.frame_laws.specs.CompleteFrames.{to_complete}
use Rattle.frame_laws.specs.FrameLaws.{after_append, rulings_append, first_is, later_opens_none, Effect, wrong_kind, wrong_number, waits, breaks, strays, starts, restarts, goes, ends, effect, reached_passes, after_snoc}
use Rattle.frame_laws.proofs.WholeFrames.{frame_complete_lem}
use Rattle.verdict_laws.specs.CaptureVerdict.{is_opening, before_first, from_first, is_whole, whole_lines, is_waiting, some_outside}
use Rattle.verdict_laws.proofs.CaptureVerdictLaws.{still_waits}

-- Rulings.

-- the line is none of a frame
abbrev is_stray : Ruling → Bool
is_stray ruling.Waiting = true
is_stray ruling.Going = false
is_stray ruling.Complete = false
is_stray (ruling.Refused refusal) = true

-- every line is one of a frame
abbrev pub NoStray : Profile → Judge → List Line → Type 0
NoStray p j ls = some is_stray (rulings p j ls) ≡ false

no_break : (v : Ruling) → is_stray v ≡ false → is_break v ≡ false
no_break ruling.Waiting h = absurd (true≢false h)
no_break ruling.Going h = refl
no_break ruling.Complete h = refl
no_break (ruling.Refused refusal) h = absurd (true≢false h)

no_breaks : (vs : List Ruling) → some is_stray vs ≡ false → some is_break vs ≡ false
no_breaks [] h = refl
no_breaks (v ∷ vs) h = or_neither (is_break v) _ (no_break v (or_left (is_stray v) _ h)) (no_breaks vs (or_right (is_stray v) _ h))

pub some_append : {A : Type 0} (which : A → Bool) (v w : List A) → some which (v ++ w) ≡ (some which v || some which w)
some_append which [] w = refl
some_append which (x ∷ v) w = ap (λ (b : Bool). which x || b) (some_append which v w) ∙ sym (or_assoc (which x) (some which v) (some which w))

-- of lines in two parts, by the judge between them
pub some_parts : (which : Ruling → Bool) (p : Profile) (ls ms : List Line) → after p Waiting ls ≡ Waiting
    → some which (rulings p Waiting (ls ++ ms)) ≡ (some which (rulings p Waiting ls) || some which (rulings p Waiting ms))
some_parts which p ls ms e =
    ap (some which) (rulings_append p Waiting ls ms)
    ∙ some_append which (rulings p Waiting ls) (rulings p (after p Waiting ls) ms)
    ∙ ap (λ (j : Judge). some which (rulings p Waiting ls) || some which (rulings p j ms)) e

-- the first of some lines that are all of frames
pub front_no_stray : (p : Profile) (ls ms : List Line) → NoStray p Waiting (ls ++ ms) → NoStray p Waiting ls
front_no_stray p ls ms h =
    or_left (some is_stray (rulings p Waiting ls)) _
    (sym (some_append is_stray (rulings p Waiting ls) (rulings p (after p Waiting ls) ms)) ∙ ap (some is_stray) (sym (rulings_append p Waiting ls ms)) ∙ h)

-- Whole frames.

-- the judge waits after them again
pub record Framed (p : Profile) (ls : List Line) : Type 0 where
  pub no_stray : NoStray p Waiting ls
  pub waits_after : after p Waiting ls ≡ Waiting

pub framed_none : (p : Profile) → Framed p []
framed_none p = record { no_stray = refl; waits_after = refl }

pub no_stray_on : (p : Profile) (ls ms : List Line) → Framed p ls → NoStray p Waiting ms → NoStray p Waiting (ls ++ ms)
no_stray_on p ls ms f h = some_parts is_stray p ls ms f.waits_after ∙ or_neither (some is_stray (rulings p Waiting ls)) _ f.no_stray h

pub framed_on : (p : Profile) (ls ms : List Line) → Framed p ls → Framed p ms → Framed p (ls ++ ms)
framed_on p ls ms f g =
    record {
      no_stray = no_stray_on p ls ms f g.no_stray;
      waits_after = after_append p Waiting ls ms ∙ ap (λ (j : Judge). after p j ms) f.waits_after ∙ g.waits_after;
    }

to_complete_lem : (n : ℕ) → (some is_stray (to_complete n) ≡ false) × (some is_complete (to_complete n) ≡ true)
to_complete_lem zero = (refl, refl)
to_complete_lem (suc n) = to_complete_lem n

pub frame_framed : (p : Profile) (b : Borders) (ls : List Line) → IsFrame p b ls → Framed p ls
frame_framed p b ls f =
    let c = frame_complete_lem p b ls f in
    record { no_stray = ap (some is_stray) c.0 ∙ (to_complete_lem (last_place p)).0; waits_after = c.1 }

-- None of them is outside.

inside_one : (p : Profile) (j : Judge) (l : Line) (r : Judged) → Effect p j l r → is_stray r.ruling ≡ false → (is_waiting j && is_waiting r.judge) ≡ false
inside_one p j l _ wrong_kind h = absurd (true≢false h)
inside_one p j l _ wrong_number h = absurd (true≢false h)
inside_one p j l _ waits h = absurd (true≢false h)
inside_one p j l _ breaks h = absurd (true≢false h)
inside_one p j l _ strays h = absurd (true≢false h)
inside_one p j l _ (starts q o) h = and-false (is_waiting j)
inside_one p j l _ (restarts o) h = absurd (true≢false h)
inside_one p j l _ (goes place b e d g) h = and-false (is_waiting j)
inside_one p j l _ (ends place b e d g) h = ap (λ (i : Judge). is_waiting i && true) e

inside : (p : Profile) (past ls : List Line) → NoStray p (after p Waiting past) ls → some_outside p (after p Waiting past) ls ≡ false
inside p past [] h = refl
inside p past (l ∷ ls) h =
    let j : Judge = after p Waiting past in
    let v : Ruling = (called p j l).ruling in
    or_neither (is_whole l && (is_waiting j && is_waiting (called p j l).judge)) _
    (ap (λ (b : Bool). is_whole l && b) (inside_one p j l (called p j l) (effect p j l (reached_passes p past)) (or_left (is_stray v) _ h)) ∙ and-false (is_whole l))
    (subst (λ (k : Judge). NoStray p k ls → some_outside p k ls ≡ false) (after_snoc p Waiting past l) (inside p (past ++ (l ∷ [])) ls) (or_right (is_stray v) _ h))

-- The last lines of a frame, none of them its first.

-- the lines of a frame from some place to its end
abbrev pub Tail : Profile → List Line → Type 0
Tail p ls = (b : Borders) × (k : ℕ) × (laid_from p b (suc k) ls ≡ true) × (k + length ls ≡ last_place p)

tail_opens_none : (p : Profile) (b : Borders) (k : ℕ) (ls : List Line) → laid_from p b (suc k) ls ≡ true → some is_opening ls ≡ false
tail_opens_none p b k [] h = refl
tail_opens_none p b k (l ∷ ls) h =
    or_neither (is_opening l) _ (later_opens_none p b k l (and_left (is_laid_out_at p b (suc k) l) _ h)) (tail_opens_none p b (suc k) ls (and_right (is_laid_out_at p b (suc k) l) _ h))

pub tail_waits : (p : Profile) (ls : List Line) → some is_opening ls ≡ false → (after p Waiting ls ≡ Waiting) × (some is_break (rulings p Waiting ls) ≡ false)
tail_waits p [] h = (refl, refl)
tail_waits p (l ∷ ls) h =
    let s = still_waits p l (or_left (is_opening l) _ h) in
    let r = tail_waits p ls (or_right (is_opening l) _ h) in (
      ap (λ (j : Judge). after p j ls) s.0 ∙ r.0,
      or_neither (is_break (called p Waiting l).ruling) _ s.1 (ap (λ (j : Judge). some is_break (rulings p j ls)) s.0 ∙ r.1),
    )

before_tail : (ls ms : List Line) → some is_opening ls ≡ false → (before_first (ls ++ ms) ≡ ls ++ before_first ms) × (from_first (ls ++ ms) ≡ from_first ms)
before_tail [] ms h = (refl, refl)
before_tail (l ∷ ls) ms h =
    let r = before_tail ls ms (or_right (is_opening l) _ h) in
    let e : is_opening l ≡ false = or_left (is_opening l) _ h in
    (ap (λ (b : Bool). cond b [] (l ∷ before_first (ls ++ ms))) e ∙ ap {B = List Line} (λ x. l ∷ x) r.0, ap (λ (b : Bool). cond b (l ∷ (ls ++ ms)) (from_first (ls ++ ms))) e ∙ r.1)

whole_few : (ls : List Line) → length (whole_lines ls) ≤ length ls
whole_few [] = omega arith
whole_few (l ∷ ls) = go (is_whole l) (whole_few ls)
  where
    go : (b : Bool) → length (whole_lines ls) ≤ length ls → length (cond b (l ∷ whole_lines ls) (whole_lines ls)) ≤ suc (length ls)
    go true h = omega arith
    go false h = omega arith

-- All together.

-- the lines start with one that opens a frame
abbrev pub Begins : List Line → Type 0
Begins ls = (before_first ls ≡ []) × (from_first ls ≡ ls)

pub frame_begins : (p : Profile) (b : Borders) (ls ms : List Line) → IsFrame p b ls → Begins (ls ++ ms)
frame_begins p b [] ms f = absurd (let e = f.0 in omega arith)
frame_begins p b (l ∷ ls) ms f =
    let e : is_opening l ≡ true = ap is_opening (first_is p b l (and_left (is_laid_out_at p b 0 l) _ f.1)) in
    (ap (λ (c : Bool). cond c [] (l ∷ before_first (ls ++ ms))) e, ap (λ (c : Bool). cond c (l ∷ (ls ++ ms)) (from_first (ls ++ ms))) e)

-- of the lines handed to the judge: a frame is complete and none is broken; after the first opens no line is outside, and few come before it
pub record InPlace (p : Profile) (ls : List Line) : Type 0 where
  pub complete : some is_complete (rulings p Waiting ls) ≡ true
  pub unbroken : some is_break (rulings p Waiting ls) ≡ false
  pub none_outside : some_outside p Waiting (from_first ls) ≡ false
  pub few : leb (length (whole_lines (before_first ls))) (last_place p) ≡ true

-- the last lines of a frame, then frames, one more, and more lines of frames
pub in_place : (p : Profile) (b : Borders) (t es f ms : List Line) → Tail p t → Framed p es → IsFrame p b f → NoStray p Waiting ms → Begins (es ++ (f ++ ms))
    → InPlace p (t ++ (es ++ (f ++ ms)))
in_place p b t es f ms (c, k, laid, long) e isf m begins =
    let gs : List Line = es ++ (f ++ ms) in
    let o : some is_opening t ≡ false = tail_opens_none p c k t laid in
    let w = tail_waits p t o in
    let bt = before_tail t gs o in
    let ff : Framed p f = frame_framed p b f isf in
    let whole : some is_complete (rulings p Waiting f) ≡ true = ap (some is_complete) (frame_complete_lem p b f isf).0 ∙ (to_complete_lem (last_place p)).1 in
    let quiet : NoStray p Waiting gs = no_stray_on p es (f ++ ms) e (no_stray_on p f ms ff m) in
    record {
      complete =
          some_parts is_complete p t gs w.0
          ∙ ap (λ (x : Bool). some is_complete (rulings p Waiting t) || x)
          (some_parts is_complete p es (f ++ ms) e.waits_after
          ∙ ap (λ (x : Bool). some is_complete (rulings p Waiting es) || x)
          (some_parts is_complete p f ms ff.waits_after ∙ ap (λ (x : Bool). x || some is_complete (rulings p Waiting ms)) whole)
          ∙ or-true (some is_complete (rulings p Waiting es)))
          ∙ or-true (some is_complete (rulings p Waiting t));
      unbroken = some_parts is_break p t gs w.0 ∙ or_neither (some is_break (rulings p Waiting t)) _ w.1 (no_breaks (rulings p Waiting gs) quiet);
      none_outside = ap (some_outside p Waiting) (bt.1 ∙ begins.1) ∙ inside p [] gs quiet;
      few =
          let tail_few : length (whole_lines t) ≤ last_place p = (let x = whole_few t in omega (arith, long)) in
          ap (λ (x : List Line). leb (length (whole_lines x)) (last_place p)) (bt.0 ∙ ap (λ (x : List Line). t ++ x) begins.0 ∙ append-nil t)
          ∙ le-leb (length (whole_lines t)) (last_place p) tail_few;
    }
