-- Laws of frames: the judge's test is true of exactly the states that calls reach, a whole frame is Complete, and nothing else is.
use Rattle.std.specs.Prelude.{◌≡◌, refl, Bool, true, false, ◌&&◌, ◌||◌, cond, List, [], ◌∷◌, ◌++◌, ℕ, zero, suc, ◌+◌, ◌-◌, ◌≤◌, ◌<◌, eqb, leb, ltb, length, get_or, take, None, Option, Some}
use Rattle.std.proofs.Common.{sym, ap, ap₂, subst, ◌∙◌, true≢false, append-nil, append_assoc, not-suc-le-zero, le_of_suc-le-suc, arith, add-one, eqb-true, leb-true, leb-false, ltb-true, ltb-false, le-leb, lt-ltb, le-ltb, eq-eqb, lit≤, length-append}
use Rattle.std.proofs.Math.Bool.{or-true}
use Rattle.bits.specs.Every.{and_left, and_right, and_both}
use Rattle.refusal.specs.Refusal.{bad_kind, number_too_large, not_the_line_due, broken_line}
use Rattle.line_code.specs.declared.Kind.{Kind}
use Rattle.line_code.specs.declared.Kind.TheVariants.{BL, BK, VL, SOF, EOF}
use Rattle.line_code.specs.LineCode.{kind_number}
use Rattle.line_number.specs.LineNumber.{greatest}
use Rattle.profile.specs.declared.Profile.{Profile}
use Rattle.profile.specs.declared.Profile.TheVariants.{VV5404, VV5300}
use Rattle.frame_layout.specs.declared.Borders.{Borders}
use Rattle.frame_layout.specs.declared.Borders.TheVariants.{On, Off}
use Rattle.frame_judge.specs.declared.Judge.{Judge}
use Rattle.frame_judge.specs.declared.Judge.TheVariants.{Waiting, Due}
use Rattle.frame_judge.specs.declared.Ruling.{Ruling}
use Rattle.frame_judge.specs.declared.Ruling.TheVariants as ruling
use Rattle.frame_judge.specs.declared.Judged.{Judged}
use Rattle.frame_layout.specs.FrameLayout.{layout, kinds_of, last_place, end_place, settling_place, kind_at_place, stands_at, number_due, due_at}
use Rattle.frame_judge.specs.Frame.{within, passes, line_due, settled_by, gives, refuses, opens, begun, broken_kind, broken, due_taken, whole, judge_of}
use Rattle.frame_layout.specs.PlaceLaws.{sof_only_first}
use Rattle.frame_judge.specs.Calls.{Line, line, called, after, rulings, is_complete, accepts, accepted_one, accepted, is_laid_out_at, laid_from, FirstLines, numbered_from}
use Rattle.bits.specs.Agree.{agree}
use Rattle.frame_laws.specs.CompleteFrames.{to_complete}

-- The layout.

-- the borders are settled after the first line and before the last
pub settling_late : (p : Profile) → 0 < settling_place p
settling_late VV5404 = lit≤ tt
settling_late VV5300 = lit≤ tt

pub settling_early : (p : Profile) → settling_place p < last_place p
settling_early VV5404 = lit≤ tt
settling_early VV5300 = lit≤ tt

-- the EOF line is not after the last
pub end_before : (p : Profile) (b : Borders) → end_place p b ≤ last_place p
end_before VV5404 On = lit≤ tt
end_before VV5404 Off = lit≤ tt
end_before VV5300 On = lit≤ tt
end_before VV5300 Off = lit≤ tt

-- each place is a number of a line
pub last_small : (p : Profile) → last_place p ≤ greatest
last_small VV5404 = lit≤ tt
last_small VV5300 = lit≤ tt

-- below the settling place the two layouts agree, and at it they are VL and BL
pub alike : (p : Profile) → ((place : ℕ) → place < settling_place p → kind_at_place p On place ≡ kind_at_place p Off place) × (kind_at_place p On (settling_place p) ≡ VL) × (kind_at_place p Off (settling_place p) ≡ BL)
unfolding kind_at_place
alike VV5404 = (agree (kind_at_place VV5404 On) (kind_at_place VV5404 Off) (settling_place VV5404) refl, refl, refl)
alike VV5300 = (agree (kind_at_place VV5300 On) (kind_at_place VV5300 Off) (settling_place VV5300) refl, refl, refl)

-- below the settling place a line is due with either setting or with none
due_alike : (p : Profile) (b : Borders) (place : ℕ) → place < settling_place p → due_at p b place ≡ due_at p On place
unfolding kind_at_place
due_alike p On place h = refl
due_alike VV5404 Off place h = agree (due_at VV5404 Off) (due_at VV5404 On) (settling_place VV5404) refl place h
due_alike VV5300 Off place h = agree (due_at VV5300 Off) (due_at VV5300 On) (settling_place VV5300) refl place h

-- a line that stands at the settling place shows the borders
shows_borders : (p : Profile) (b : Borders) (k : ℕ) → stands_at p b (settling_place p) k ≡ true → cond (eqb k (kind_number VL)) On Off ≡ b
shows_borders p On k h = ap (λ (n : ℕ). cond (eqb n (kind_number VL)) On Off) (eqb-true k _ h ∙ ap kind_number (alike p).1)
shows_borders p Off k h = ap (λ (n : ℕ). cond (eqb n (kind_number VL)) On Off) (eqb-true k _ h ∙ ap kind_number (alike p).2)

-- the EOF line stands at its place
pub end_place_lem : (p : Profile) (b : Borders) → kind_at_place p b (end_place p b) ≡ EOF
unfolding kind_at_place
end_place_lem VV5404 On = refl
end_place_lem VV5404 Off = refl
end_place_lem VV5300 On = refl
end_place_lem VV5300 Off = refl

-- an SOF is due at no place but the first
sof_not_due : (p : Profile) (s : Option Borders) (place n : ℕ) → line_due p s (suc place) (kind_number SOF) n ≡ false
sof_not_due p s place n = by s
  where
    with_borders : (b : Borders) → due_at p b (suc place) (kind_number SOF) n ≡ false
    with_borders b = ap (λ (t : Bool). t && number_due p b (suc place) n) (sof_only_first p b place)

    by : (s : Option Borders) → line_due p s (suc place) (kind_number SOF) n ≡ false
    by None = ap₂ ◌||◌ (with_borders On) (with_borders Off)
    by (Some b) = with_borders b

-- a line that fits at a later place opens no frame
pub later_opens_none : (p : Profile) (b : Borders) (place : ℕ) (l : Line) → is_laid_out_at p b (suc place) l ≡ true → opens l.kind l.number ≡ false
later_opens_none p b place l f = by (eqb l.kind (kind_number SOF)) refl
  where
    by : (t : Bool) → eqb l.kind (kind_number SOF) ≡ t → (t && eqb l.number 0) ≡ false
    by true e =
        absurd (true≢false
        (sym (and_left _ _ (and_left _ _ f)) ∙ ap (stands_at p b (suc place)) (eqb-true l.kind (kind_number SOF) e) ∙ sof_only_first p b place))
    by false e = refl

-- Lines as laid out.

-- a line of the kind at a place, with a number that is due there
pub kind_fits : (p : Profile) (b : Borders) (place : ℕ) (k : Kind) (n : ℕ) → kind_at_place p b place ≡ k → number_due p b place n ≡ true → n ≤ greatest
    → is_laid_out_at p b place (line (kind_number k) n) ≡ true
kind_fits p b place k n e d h = and_both _ _ (and_both _ _ (eq-eqb _ _ (ap kind_number (sym e))) d) (le-leb n greatest h)

-- a place's own number is due there
pub own_number : (p : Profile) (b : Borders) (place : ℕ) → number_due p b place place ≡ true
own_number p b place = ap (λ (t : Bool). t || ltb (end_place p b) place) (eq-eqb place place refl)

pub laid_append : (p : Profile) (b : Borders) (place end : ℕ) (ls ms : List Line) → place + length ls ≡ end → laid_from p b place ls ≡ true → laid_from p b end ms ≡ true
    → laid_from p b place (ls ++ ms) ≡ true
laid_append p b place end [] ms e h g = subst (λ (i : ℕ). laid_from p b i ms ≡ true) (omega arith) g
laid_append p b place end (l ∷ ls) ms e h g =
    and_both (is_laid_out_at p b place l) _ (and_left (is_laid_out_at p b place l) _ h) (laid_append p b (suc place) end ls ms (omega arith) (and_right (is_laid_out_at p b place l) _ h) g)

pub length_numbered : (n : ℕ) (ks : List Kind) → length (numbered_from n ks) ≡ length ks
length_numbered n [] = refl
length_numbered n (k ∷ ks) = ap suc (length_numbered (n + 1) ks)

pub get_d_take : (n i : ℕ) (ks : List Kind) → i < n → get_or (take n ks) i BL ≡ get_or ks i BL
get_d_take zero i ks h = absurd (not-suc-le-zero h)
get_d_take (suc n) i [] h = refl
get_d_take (suc n) zero (k ∷ ks) h = refl
get_d_take (suc n) (suc i) (k ∷ ks) h = get_d_take n i ks (le_of_suc-le-suc h)

pub kind_listed : (p : Profile) (b : Borders) (i at : ℕ) → at ≡ 0 + i → kind_at_place p b at ≡ get_or (kinds_of (layout p b)) i BL
unfolding kind_at_place
kind_listed p b i at e =
    let q : at ≡ i = omega (arith, e) in
    ap (λ (j : ℕ). get_or (kinds_of (layout p b)) j BL) q

-- the line at a place, and the lines before it
abbrev pub line_at : Profile → Borders → ℕ → Line
line_at p b place = line (kind_number (kind_at_place p b place)) place

abbrev pub lines_before : Profile → Borders → ℕ → List Line
lines_before p b zero = []
lines_before p b (suc n) = lines_before p b n ++ (line_at p b n ∷ [])

-- The judge's own test.

pub within_low : (from to n : ℕ) → within from to n ≡ true → from ≤ n
within_low from to n h = leb-true from n (and_left _ _ h)

pub within_high : (from to n : ℕ) → within from to n ≡ true → n ≤ to
within_high from to n h = leb-true n to (and_right (leb from n) _ h)

within_holds : (from to n : ℕ) → from ≤ n → n ≤ to → within from to n ≡ true
within_holds from to n g h = and_both _ _ (le-leb from n g) (le-leb n to h)

pub passes_low : (p : Profile) (place : ℕ) (s : Option Borders) → passes p (Due place s) ≡ true → 1 ≤ place
passes_low p place None h = within_low 1 (settling_place p) place h
passes_low p place (Some b) h = omega (arith, within_low (settling_place p + 1) (last_place p) place h)

pub passes_high : (p : Profile) (place : ℕ) (s : Option Borders) → passes p (Due place s) ≡ true → place ≤ last_place p
passes_high p place None h = omega (arith, settling_early p, within_high 1 (settling_place p) place h)
passes_high p place (Some b) h = within_high (settling_place p + 1) (last_place p) place h

-- Runs of calls: one after another, and one call longer.

pub after_append : (p : Profile) (j : Judge) (ls ms : List Line) → after p j (ls ++ ms) ≡ after p (after p j ls) ms
after_append p j [] ms = refl
after_append p j (l ∷ ls) ms = after_append p (called p j l).judge ls ms

pub rulings_append : (p : Profile) (j : Judge) (ls ms : List Line) → rulings p j (ls ++ ms) ≡ rulings p j ls ++ rulings p (after p j ls) ms
rulings_append p j [] ms = refl
rulings_append p j (l ∷ ls) ms = ap (λ (vs : List Ruling). (called p j l).ruling ∷ vs) (rulings_append p (called p j l).judge ls ms)

pub after_snoc : (p : Profile) (j : Judge) (ls : List Line) (l : Line) → after p j (ls ++ (l ∷ [])) ≡ (called p (after p j ls) l).judge
after_snoc p j [] l = refl
after_snoc p j (a ∷ ls) l = after_snoc p (called p j a).judge ls l

pub accepted_snoc : (p : Profile) (j : Judge) (ls : List Line) (l : Line) → accepted p j (ls ++ (l ∷ [])) ≡ accepted p j ls ++ accepted_one p (after p j ls) l
accepted_snoc p j [] l = append-nil (accepted_one p j l)
accepted_snoc p j (a ∷ ls) l =
    ap (λ (t : List Line). accepted_one p j a ++ t) (accepted_snoc p (called p j a).judge ls l)
    ∙ sym (append_assoc (accepted_one p j a) (accepted p (called p j a).judge ls) (accepted_one p (after p (called p j a).judge ls) l))

-- The judge at each place of a frame.

-- the borders as the judge knows them at a place: unsettled up to the settling place
abbrev known_at : Profile → Borders → ℕ → Option Borders
known_at p b place = cond (leb place (settling_place p)) None (Some b)

-- the judge at a place of a frame
abbrev pub judge_at : Profile → Borders → ℕ → Judge
judge_at p b zero = Waiting
judge_at p b (suc n) = Due (suc n) (known_at p b (suc n))

pub judge_begun : (p : Profile) (b : Borders) → judge_at p b 1 ≡ begun
judge_begun VV5404 b = refl
judge_begun VV5300 b = refl

-- an SOF numbered 0 within a frame, after the EOF line too, is not due and opens a new frame
pub sof_within : (p : Profile) (place : ℕ) (s : Option Borders) → passes p (Due place s) ≡ true → called p (Due place s) (line (kind_number SOF) 0) ≡ refuses begun not_the_line_due
unfolding judge_of
sof_within p zero s h = absurd (let z = passes_low p zero s h in omega arith)
sof_within p (suc n) s h = simp (h, sof_not_due p s n 0)

pub opens_is : (l : Line) → opens l.kind l.number ≡ true → l ≡ line (kind_number SOF) 0
opens_is l h =
    let sof : Bool = eqb l.kind (kind_number SOF) in
    ap₂ line (eqb-true l.kind (kind_number SOF) (and_left sof _ h)) (eqb-true l.number 0 (and_right sof _ h))

either : {P : Type 0} (a b : Bool) → (a || b) ≡ true → (a ≡ true → P) → (b ≡ true → P) → P
either true b h f g = f refl
either false b h f g = g h

pub first_is : (p : Profile) (b : Borders) (l : Line) → is_laid_out_at p b 0 l ≡ true → l ≡ line (kind_number SOF) 0
unfolding kind_at_place
first_is p b l h =
    let sof : Bool = eqb l.kind (kind_number SOF) in
    let d : (sof && (eqb l.number 0 || ltb (end_place p b) 0)) ≡ true = and_left _ _ h in
    opens_is l (and_both sof _ (and_left sof _ d) (either (eqb l.number 0) _ (and_right sof _ d) (λ e. e) (λ e. absurd (let z = ltb-true (end_place p b) 0 e in omega arith))))

kind_known : (k : Kind) → leb (kind_number k) (kind_number EOF) ≡ true
kind_known BL = refl
kind_known BK = refl
kind_known VL = refl
kind_known SOF = refl
kind_known EOF = refl

kind_unbroken : (k : Kind) → eqb (kind_number k) broken_kind ≡ false
kind_unbroken BL = refl
kind_unbroken BK = refl
kind_unbroken VL = refl
kind_unbroken SOF = refl
kind_unbroken EOF = refl

-- a line that is due with either setting is due while the borders are unsettled
due_unsettled : (p : Profile) (b : Borders) (place k n : ℕ) → due_at p b place k n ≡ true → line_due p None place k n ≡ true
due_unsettled p On place k n d = ap (λ (t : Bool). t || due_at p Off place k n) d
due_unsettled p Off place k n d = ap (λ (t : Bool). due_at p On place k n || t) d ∙ or-true (due_at p On place k n)

-- and a line that is due is due with some setting
pub due_with : (p : Profile) (s : Option Borders) (place k n : ℕ) → line_due p s place k n ≡ true → (b : Borders) × (due_at p b place k n ≡ true)
due_with p None place k n d = either (due_at p On place k n) (due_at p Off place k n) d (λ e. (On, e)) (λ e. (Off, e))
due_with p (Some b) place k n d = (b, d)

-- a line that fits is due, and the judge passes its own test, while the borders are unsettled and after
fits_due : (p : Profile) (b : Borders) (place : ℕ) (l : Line) → 1 ≤ place → place ≤ last_place p → is_laid_out_at p b place l ≡ true
    → (passes p (Due place (known_at p b place)) ≡ true) × (line_due p (known_at p b place) place l.kind l.number ≡ true)
fits_due p b place l g h f = by (leb place (settling_place p)) refl
  where
    due : due_at p b place l.kind l.number ≡ true
    due = and_left _ _ f

    by : (t : Bool) → leb place (settling_place p) ≡ t
        → (passes p (Due place (cond t None (Some b))) ≡ true) × (line_due p (cond t None (Some b)) place l.kind l.number ≡ true)
    by true e = (within_holds 1 (settling_place p) place g (leb-true place (settling_place p) e), due_unsettled p b place l.kind l.number due)
    by false e = (within_holds (settling_place p + 1) (last_place p) place (omega (arith, leb-false place (settling_place p) e)) h, due)

-- and it leaves the borders as the judge knows them at the next place
settled_at : (p : Profile) (b : Borders) (place : ℕ) (l : Line) → is_laid_out_at p b place l ≡ true → settled_by p (known_at p b place) place l.kind ≡ known_at p b (suc place)
settled_at p b place l h = by (leb place (settling_place p)) (ltb place (settling_place p)) refl refl
  where
    by : (t u : Bool) → leb place (settling_place p) ≡ t → ltb place (settling_place p) ≡ u
        → settled_by p (cond t None (Some b)) place l.kind ≡ cond u None (Some b)
    by true true e f = simp f
    by true false e f =
        let q : place ≡ settling_place p = omega (arith, leb-true place (settling_place p) e, ltb-false place (settling_place p) f) in
        simp f (ap Some (shows_borders p b l.kind (subst (λ (i : ℕ). stands_at p b i l.kind ≡ true) q (and_left _ _ (and_left _ _ h)))))
    by false true e f = absurd (omega (arith, leb-false place (settling_place p) e, ltb-true place (settling_place p) f))
    by false false e f = refl

fitting : (p : Profile) (b : Borders) (n : ℕ) (l : Line) → suc n ≤ last_place p → is_laid_out_at p b (suc n) l ≡ true
    → called p (judge_at p b (suc n)) l ≡ due_taken p (suc n) (known_at p b (suc n)) l.kind
unfolding judge_of
fitting p b n l h f =
    let d = fits_due p b (suc n) l (omega arith) h f in
    let k : Kind = kind_at_place p b (suc n) in
    let e : kind_number k ≡ l.kind = sym (eqb-true l.kind _ (and_left _ _ (and_left _ _ f))) in
    simp (
      d.0,
      subst (λ (m : ℕ). leb m (kind_number EOF) ≡ true) e (kind_known k),
      subst (λ (m : ℕ). eqb m broken_kind ≡ false) e (kind_unbroken k),
      and_right (due_at p b (suc n) l.kind l.number) _ f,
      d.1,
    )

-- a line that fits, before the last place and at it
abbrev goes_on : Profile → Borders → ℕ → Judged
goes_on p b place = gives (judge_at p b (suc place)) ruling.Going

pub fitting_going : (p : Profile) (b : Borders) (n : ℕ) (l : Line) → n < last_place p - 1 → is_laid_out_at p b (suc n) l ≡ true → called p (judge_at p b (suc n)) l ≡ goes_on p b (suc n)
fitting_going p b n l h f = fitting p b n l (omega arith) f ∙ simp (lt-ltb (suc n) (last_place p) (omega arith), settled_at p b (suc n) l f, add-one (suc n))

fitting_last : (p : Profile) (b : Borders) (n : ℕ) (l : Line) → suc n ≡ last_place p → is_laid_out_at p b (suc n) l ≡ true → called p (judge_at p b (suc n)) l ≡ gives Waiting ruling.Complete
fitting_last p b n l e f = fitting p b n l (omega (arith, e)) f ∙ simp (le-ltb (suc n) (last_place p) (omega (arith, e)))

-- A whole frame.

pub from_call : (p : Profile) (j : Judge) (l : Line) (r : Judged) (ls : List Line) → called p j l ≡ r
    → (rulings p j (l ∷ ls) ≡ r.ruling ∷ rulings p r.judge ls) × (after p j (l ∷ ls) ≡ after p r.judge ls)
from_call p j l r ls e = (ap (λ (x : Judged). x.ruling ∷ rulings p x.judge ls) e, ap (λ (x : Judged). after p x.judge ls) e)

pub rest_complete : (p : Profile) (b : Borders) (n : ℕ) (l : Line) (ls : List Line) → suc n + length ls ≡ last_place p → laid_from p b (suc n) (l ∷ ls) ≡ true
    → (rulings p (judge_at p b (suc n)) (l ∷ ls) ≡ to_complete (length ls)) × (after p (judge_at p b (suc n)) (l ∷ ls) ≡ Waiting)
rest_complete p b n l [] e h =
    from_call p (judge_at p b (suc n)) l (gives Waiting ruling.Complete) [] (fitting_last p b n l (omega arith) (and_left _ _ h))
rest_complete p b n l (m ∷ ls) e h =
    let f = from_call p (judge_at p b (suc n)) l (goes_on p b (suc n)) (m ∷ ls) (fitting_going p b n l (omega arith) (and_left _ _ h)) in
    let r = rest_complete p b (suc n) m ls (omega arith) (and_right (is_laid_out_at p b (suc n) l) _ h) in
    (f.0 ∙ ap (λ (vs : List Ruling). ruling.Going ∷ vs) r.0, f.1 ∙ r.1)

-- What one call does.

-- the line is due at the place, and its number is not too large
abbrev pub IsDue : Profile → Option Borders → ℕ → Line → Type 0
IsDue p s place l = (line_due p s place l.kind l.number ≡ true) × (leb l.number greatest ≡ true)

-- a call changes nothing (13, 14); or the judge waits; or the line breaks the frame (19, 18); or it opens one, or another one; or it is due,
-- and not the last; or the last
pub data Effect (p : Profile) (j : Judge) (l : Line) : Judged → Type 0 where
  wrong_kind : Effect p j l (refuses j bad_kind)
  wrong_number : Effect p j l (refuses j number_too_large)
  waits : Effect p j l (gives Waiting ruling.Waiting)
  breaks : Effect p j l (refuses Waiting broken_line)
  strays : Effect p j l (refuses Waiting not_the_line_due)
  starts : j ≡ Waiting → opens l.kind l.number ≡ true → Effect p j l (gives begun ruling.Going)
  restarts : opens l.kind l.number ≡ true → Effect p j l (refuses begun not_the_line_due)
  goes : (place : ℕ) (s : Option Borders) → j ≡ Due place s → IsDue p s place l → place < last_place p
      → Effect p j l (gives (Due (place + 1) (settled_by p s place l.kind)) ruling.Going)
  ends : (place : ℕ) (s : Option Borders) → j ≡ Due place s → IsDue p s place l → last_place p ≤ place → Effect p j l (gives Waiting ruling.Complete)

pick : {p : Profile} {j : Judge} {l : Line} {x y : Judged} (t : Bool) → (t ≡ true → Effect p j l x) → (t ≡ false → Effect p j l y) → Effect p j l (cond t x y)
pick true f g = f refl
pick false f g = g refl

effect_broken : (p : Profile) (j : Judge) (l : Line) → Effect p j l (broken j)
effect_broken p Waiting l = waits
effect_broken p (Due place s) l = breaks

effect_whole : (p : Profile) (j : Judge) (l : Line) → leb l.number greatest ≡ true → Effect p j l (whole p j l.kind l.number)
effect_whole p Waiting l n = pick (opens l.kind l.number) (λ o. starts refl o) (λ o. waits)
effect_whole p (Due place s) l n =
    pick (line_due p s place l.kind l.number)
    (λ d. pick (ltb place (last_place p)) (λ t. goes place s refl (d, n) (ltb-true place (last_place p) t)) (λ t. ends place s refl (d, n) (ltb-false place (last_place p) t)))
    (λ d. pick (opens l.kind l.number) (λ o. restarts o) (λ o. strays))

pub effect : (p : Profile) (j : Judge) (l : Line) → passes p j ≡ true → Effect p j l (called p j l)
unfolding judge_of
effect p j l h =
    pick (passes p j)
    (λ _. pick (leb l.kind (kind_number EOF))
    (λ k. pick (eqb l.kind broken_kind) (λ z. effect_broken p j l)
    (λ z. pick (leb l.number greatest) (λ n. effect_whole p j l n) (λ n. wrong_number)))
    (λ k. wrong_kind))
    (λ e. absurd (true≢false (sym h ∙ e)))

-- a call that is not accepted changes nothing
pub unaccepted : (p : Profile) (j : Judge) (l : Line) → passes p j ≡ true → accepts (called p j l).ruling ≡ false → (called p j l).judge ≡ j
unaccepted p j l h = by (called p j l) (effect p j l h)
  where
    by : (r : Judged) → Effect p j l r → accepts r.ruling ≡ false → r.judge ≡ j
    by _ wrong_kind e = refl
    by _ wrong_number e = refl
    by _ waits e = absurd (true≢false e)
    by _ breaks e = absurd (true≢false e)
    by _ strays e = absurd (true≢false e)
    by _ (starts q o) e = absurd (true≢false e)
    by _ (restarts o) e = absurd (true≢false e)
    by _ (goes place s q d g) e = absurd (true≢false e)
    by _ (ends place s q d g) e = absurd (true≢false e)

passes_next : (p : Profile) (place : ℕ) (s : Option Borders) (k : ℕ) → passes p (Due place s) ≡ true → place < last_place p → passes p (Due (place + 1) (settled_by p s place k)) ≡ true
passes_next p place None k h g = by (ltb place (settling_place p)) refl
  where
    by : (early : Bool) → ltb place (settling_place p) ≡ early → passes p (Due (place + 1) (cond early None (Some (cond (eqb k (kind_number VL)) On Off)))) ≡ true
    by true e = within_holds 1 (settling_place p) (place + 1) (omega arith) (omega (arith, ltb-true place (settling_place p) e))
    by false e = within_holds (settling_place p + 1) (last_place p) (place + 1) (omega (arith, ltb-false place (settling_place p) e)) (omega arith)
passes_next p place (Some b) k h g =
    within_holds (settling_place p + 1) (last_place p) (place + 1) (omega (arith, within_low (settling_place p + 1) (last_place p) place h)) (omega arith)

passes_begun : (p : Profile) → passes p begun ≡ true
passes_begun VV5404 = refl
passes_begun VV5300 = refl

passes_effect : (p : Profile) (j : Judge) (l : Line) (r : Judged) → Effect p j l r → passes p j ≡ true → passes p r.judge ≡ true
passes_effect p j l _ wrong_kind h = h
passes_effect p j l _ wrong_number h = h
passes_effect p j l _ waits h = refl
passes_effect p j l _ breaks h = refl
passes_effect p j l _ strays h = refl
passes_effect p j l _ (starts q o) h = passes_begun p
passes_effect p j l _ (restarts o) h = passes_begun p
passes_effect p j l _ (goes place s e d g) h = passes_next p place s l.kind (subst (λ (i : Judge). passes p i ≡ true) e h) g
passes_effect p j l _ (ends place s e d g) h = refl

pub passes_after : (p : Profile) (j : Judge) (ls : List Line) → passes p j ≡ true → passes p (after p j ls) ≡ true
passes_after p j [] h = h
passes_after p j (l ∷ ls) h = passes_after p (called p j l).judge ls (passes_effect p j l (called p j l) (effect p j l h) h)

-- whatever the calls, the judge passes
pub reached_passes : (p : Profile) (ls : List Line) → passes p (after p Waiting ls) ≡ true
reached_passes p ls = passes_after p Waiting ls refl

-- Which lines came before.

-- the borders may still be these
abbrev MayBe : Option Borders → Borders → Type 0
MayBe None b = Unit {0}
MayBe (Some c) b = c ≡ b

-- what may still be so after a line might have been before it
may_before : (p : Profile) (place : ℕ) (s : Option Borders) (k : ℕ) (b : Borders) → MayBe (settled_by p s place k) b → MayBe s b
may_before p place None k b o = tt
may_before p place (Some c) k b o = o

-- a line that is due fits with each setting that it leaves open
due_fits : (p : Profile) (place : ℕ) (s : Option Borders) (l : Line) (b : Borders) → passes p (Due place s) ≡ true → IsDue p s place l
    → MayBe (settled_by p s place l.kind) b → is_laid_out_at p b place l ≡ true
due_fits p place (Some c) l b h d o = subst (λ (x : Borders). is_laid_out_at p x place l ≡ true) o (and_both _ _ d.0 d.1)
due_fits p place None l b h d o = and_both _ _ (by (ltb place (settling_place p)) refl o (due_with p None place l.kind l.number d.0)) d.1
  where
    due : Borders → Bool
    due c = due_at p c place l.kind l.number

    by : (t : Bool) → ltb place (settling_place p) ≡ t → MayBe (cond t None (Some (cond (eqb l.kind (kind_number VL)) On Off))) b
        → (c : Borders) × (due c ≡ true) → due b ≡ true
    by true e o (c, f) =
        let early = ltb-true place (settling_place p) e in
        ap (λ (g : ℕ → ℕ → Bool). g l.kind l.number) (due_alike p b place early ∙ sym (due_alike p c place early)) ∙ f
    by false e o (c, f) =
        let q : place ≡ settling_place p = omega (arith, ltb-false place (settling_place p) e, within_high 1 (settling_place p) place h) in
        let same : c ≡ b = sym (shows_borders p c l.kind (subst (λ (i : ℕ). stands_at p c i l.kind ≡ true) q (and_left _ _ f))) ∙ o in
        subst (λ (x : Borders). due x ≡ true) same f

-- the lines accepted so far end in those of the frame that the judge is in: its first lines, with each setting that is still open
abbrev pub Traced : Profile → List Line → Judge → Type 0
Traced p past Waiting = Unit {0}
Traced p past (Due place s) = (earlier : List Line) × (ls : List Line) × (past ≡ earlier ++ ls) × ((b : Borders) → MayBe s b → FirstLines p b place ls)

-- the first lines of a frame, one line longer
first_longer : (p : Profile) (b : Borders) (place : ℕ) (ls : List Line) (l : Line) → is_laid_out_at p b place l ≡ true → FirstLines p b place ls → FirstLines p b (suc place) (ls ++ (l ∷ []))
first_longer p b place ls l h f =
    (simp length-append (omega (arith, f.0)), laid_append p b 0 place ls (l ∷ []) (omega (arith, f.0)) f.1 (and_both _ _ h refl))

-- the lines accepted so far, one line longer
pub longer : (p : Profile) (past : List Line) (place : ℕ) (s : Option Borders) (l : Line) → passes p (Due place s) ≡ true → IsDue p s place l
    → Traced p past (Due place s) → Traced p (past ++ (l ∷ [])) (Due (suc place) (settled_by p s place l.kind))
longer p past place s l h d (earlier, ls, e, f) = (
  earlier,
  ls ++ (l ∷ []),
  ap (λ (x : List Line). x ++ (l ∷ [])) e ∙ append_assoc earlier ls (l ∷ []),
  λ b o. first_longer p b place ls l (due_fits p place s l b h d o) (f b (may_before p place s l.kind b o)),
)

-- a line that opens a frame is its first
traced_first : (p : Profile) (past : List Line) (l : Line) → opens l.kind l.number ≡ true → Traced p (past ++ (l ∷ [])) begun
unfolding kind_at_place
traced_first p past l o = (past, l ∷ [], refl, λ b _. (refl, subst (λ (x : Line). laid_from p b 0 (x ∷ []) ≡ true) (sym (opens_is l o)) refl))

traced_effect : (p : Profile) (past : List Line) (j : Judge) (l : Line) (r : Judged) → Effect p j l r → passes p j ≡ true → Traced p past j → Traced p (past ++ cond (accepts r.ruling) (l ∷ []) []) r.judge
traced_effect p past j l _ wrong_kind h t = simp append-nil t
traced_effect p past j l _ wrong_number h t = simp append-nil t
traced_effect p past j l _ waits h t = tt
traced_effect p past j l _ breaks h t = tt
traced_effect p past j l _ strays h t = tt
traced_effect p past j l _ (starts q o) h t = traced_first p past l o
traced_effect p past j l _ (restarts o) h t = traced_first p past l o
traced_effect p past j l _ (goes place s e d g) h t =
    simp add-one (longer p past place s l (subst (λ (i : Judge). passes p i ≡ true) e h) d (subst (λ (i : Judge). Traced p past i) e t))
traced_effect p past j l _ (ends place s e d g) h t = tt

pub traced : (p : Profile) (past : List Line) (j : Judge) (ls : List Line) → passes p j ≡ true → Traced p past j → Traced p (past ++ accepted p j ls) (after p j ls)
traced p past j [] h t = simp append-nil t
traced p past j (l ∷ ls) h t =
    let e = effect p j l h in
    simp (← append_assoc)
    (traced p (past ++ accepted_one p j l) (called p j l).judge ls (passes_effect p j l (called p j l) e h) (traced_effect p past j l (called p j l) e h t))

-- only a line that is due at the last place is answered Complete
pub ends_only : (p : Profile) (j : Judge) (l : Line) (r : Judged) → Effect p j l r → r.ruling ≡ ruling.Complete
    → (place : ℕ) × (s : Option Borders) × (j ≡ Due place s) × (IsDue p s place l) × (last_place p ≤ place)
ends_only p j l _ wrong_kind e = absurd (true≢false (sym (ap is_complete e)))
ends_only p j l _ wrong_number e = absurd (true≢false (sym (ap is_complete e)))
ends_only p j l _ waits e = absurd (true≢false (sym (ap is_complete e)))
ends_only p j l _ breaks e = absurd (true≢false (sym (ap is_complete e)))
ends_only p j l _ strays e = absurd (true≢false (sym (ap is_complete e)))
ends_only p j l _ (starts q o) e = absurd (true≢false (sym (ap is_complete e)))
ends_only p j l _ (restarts o) e = absurd (true≢false (sym (ap is_complete e)))
ends_only p j l _ (goes place s q d g) e = absurd (true≢false (sym (ap is_complete e)))
ends_only p j l _ (ends place s q d g) e = (place, s, q, d, g)
