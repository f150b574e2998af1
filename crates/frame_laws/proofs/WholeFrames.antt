-- The states that calls reach, and whole frames: the laws of frames that rest on others of them (FrameLaws) that the must-fail edits turn.
use Rattle.std.specs.Prelude.{◌≡◌, refl, Bool, true, false, ◌||◌, cond, List, [], ◌∷◌, ◌++◌, ℕ, zero, suc, ◌+◌, ◌-◌, ◌≤◌, ◌<◌, eqb, length, get_or, replicate, take, None, Option, Some}
use Rattle.std.proofs.Common.{sym, ap, subst, ◌∙◌, arith, add-one, le-leb, lt-ltb, length-append, length-take}
use Rattle.std.proofs.lemmas.Bool.{lt-leb}
use Rattle.std.proofs.lemmas.List.{length-replicate}
use Rattle.bits.specs.Every.{and_left, and_right, and_both}
use Rattle.line_code.specs.declared.Kind.{Kind}
use Rattle.line_code.specs.declared.Kind.TheVariants.{BL, SOF}
use Rattle.line_code.specs.LineCode.{kind_number}
use Rattle.line_number.specs.LineNumber.{greatest}
use Rattle.profile.specs.declared.Profile.{Profile}
use Rattle.profile.specs.declared.Profile.TheVariants.{VV5404, VV5300}
use Rattle.frame_layout.specs.declared.Borders.{Borders}
use Rattle.frame_layout.specs.declared.Borders.TheVariants.{On}
use Rattle.frame_judge.specs.declared.Judge.{Judge}
use Rattle.frame_judge.specs.declared.Judge.TheVariants.{Waiting, Due}
use Rattle.frame_judge.specs.declared.Ruling.{Ruling}
use Rattle.frame_judge.specs.declared.Ruling.TheVariants as ruling
use Rattle.frame_judge.specs.declared.Judged.{Judged}
use Rattle.frame_layout.specs.FrameLayout.{layout, kinds_of, last_place, end_place, settling_place, kind_at_place}
use Rattle.frame_judge.specs.Frame.{passes, gives, begun, judge_of}
use Rattle.frame_layout.specs.PlaceLaws.{blank_after_lem}
use Rattle.frame_layout.specs.FrameLength.{frame_length}
use Rattle.frame_judge.specs.Calls.{Line, line, called, after, rulings, accepts, accepted, is_laid_out_at, laid_from, FirstLines, IsFrame, numbered_from, frame_lines}
use Rattle.frame_laws.specs.CompleteFrames.{to_complete, Completes}
use Rattle.frame_laws.specs.FrameLaws.{settling_early, end_before, last_small, kind_fits, own_number, laid_append, length_numbered, get_d_take, kind_listed, line_at, lines_before, within_low, within_high, passes_low, passes_high, after_snoc, accepted_snoc, judge_at, judge_begun, sof_within, first_is, fitting_going, from_call, rest_complete, IsDue, effect, reached_passes, Traced, longer, traced, ends_only}

-- lines of the kinds at the places from one on, each numbered with its place
laid_counted : (p : Profile) (b : Borders) (place : ℕ) (ks : List Kind)
    → ((i at : ℕ) → at ≡ place + i → i < length ks → kind_at_place p b at ≡ get_or ks i BL) → place + length ks ≤ greatest + 1 → laid_from p b place (numbered_from place ks) ≡ true
laid_counted p b place [] e h = refl
laid_counted p b place (k ∷ ks) e h =
    and_both _ _ (kind_fits p b place k place (e 0 place (omega arith) (omega arith)) (own_number p b place) (omega arith))
    (subst (λ (i : ℕ). laid_from p b (suc place) (numbered_from i ks) ≡ true) (sym (add-one place))
    (laid_counted p b (suc place) ks (λ i at q l. e (suc i) at (omega arith) (omega arith)) (omega arith)))

-- lines after the EOF line, with its number
laid_held : (p : Profile) (b : Borders) (place n : ℕ) → end_place p b < place → laid_from p b place (replicate n (line (kind_number BL) (end_place p b))) ≡ true
laid_held p b place zero h = refl
laid_held p b place (suc n) h =
    and_both _ _ (kind_fits p b place BL (end_place p b) (blank_after_lem p b place h) (or_right (eqb (end_place p b) place) _ (lt-ltb (end_place p b) place h)) (end_small p b))
    (laid_held p b (suc place) n (omega arith))
  where
    or_right : (a t : Bool) → t ≡ true → (a || t) ≡ true
    or_right true t e = refl
    or_right false t e = e

    end_small : (p : Profile) (b : Borders) → end_place p b ≤ greatest
    end_small p b = omega (arith, end_before p b, last_small p)

-- a frame may count on to its last line
pub frame_counted : (p : Profile) (b : Borders) → IsFrame p b (frame_lines p b)
frame_counted p b = (
  length_numbered 0 (kinds_of (layout p b)) ∙ frame_length p b,
  laid_counted p b 0 (kinds_of (layout p b)) (λ i at e h. kind_listed p b i at e) (omega (arith, frame_length p b, last_small p)),
)

-- or hold the EOF line's number
pub frame_held : (p : Profile) (b : Borders)
    → IsFrame p b (numbered_from 0 (take (end_place p b + 1) (kinds_of (layout p b))) ++ replicate (last_place p - end_place p b) (line (kind_number BL) (end_place p b)))
frame_held p b =
    let ks : List Kind = take (end_place p b + 1) (kinds_of (layout p b)) in
    let ms : List Line = replicate (last_place p - end_place p b) (line (kind_number BL) (end_place p b)) in
    let e : length ks ≡ end_place p b + 1 = length-take (end_place p b + 1) (kinds_of (layout p b)) ∙ omega (arith, frame_length p b, end_before p b) in
    let l : length (numbered_from 0 ks) ≡ end_place p b + 1 = length_numbered 0 ks ∙ e in
    let m : length ms ≡ last_place p - end_place p b = length-replicate (last_place p - end_place p b) (line (kind_number BL) (end_place p b)) in (
      length-append (numbered_from 0 ks) ms ∙ omega (arith, l, m, end_before p b),
      laid_append p b 0 (end_place p b + 1) (numbered_from 0 ks) ms (omega (arith, l))
          (laid_counted p b 0 ks
          (λ i at q h. kind_listed p b i at q ∙ sym (get_d_take (end_place p b + 1) i (kinds_of (layout p b)) (omega (arith, e))))
          (omega (arith, e, end_before p b, last_small p)))
          (laid_held p b (end_place p b + 1) (last_place p - end_place p b) (omega arith)),
    )

own_fits : (p : Profile) (b : Borders) (place : ℕ) → place ≤ greatest → is_laid_out_at p b place (line_at p b place) ≡ true
own_fits p b place h = kind_fits p b place (kind_at_place p b place) place refl (own_number p b place) h

-- an SOF numbered 0 opens a frame from any judge
sof_opens : (p : Profile) (j : Judge) → passes p j ≡ true → (called p j (line (kind_number SOF) 0)).judge ≡ begun
unfolding judge_of
sof_opens p Waiting h = refl
sof_opens p (Due place s) h = ap (λ (r : Judged). r.judge) (sof_within p place s h)

-- The states that calls reach.

going : (p : Profile) (b : Borders) (place : ℕ) → place < last_place p → (called p (judge_at p b place) (line_at p b place)).judge ≡ judge_at p b (suc place)
unfolding judge_of
going p b zero h = subst (λ (l : Line). (called p Waiting l).judge ≡ judge_at p b 1) (sym (first_is p b (line_at p b 0) (own_fits p b 0 (omega arith)))) (sym (judge_begun p b))
going p b (suc n) h =
    ap (λ (r : Judged). r.judge) (fitting_going p b n (line_at p b (suc n)) (omega arith) (own_fits p b (suc n) (omega (arith, last_small p))))

reach : (p : Profile) (b : Borders) (place : ℕ) → place ≤ last_place p → after p Waiting (lines_before p b place) ≡ judge_at p b place
reach p b zero h = refl
reach p b (suc n) h =
    after_snoc p Waiting (lines_before p b n) (line_at p b n)
    ∙ ap (λ (j : Judge). (called p j (line_at p b n)).judge) (reach p b n (omega arith))
    ∙ going p b n (omega arith)

-- a judge that passes is reached by the first lines of a frame
pub passes_reached : (p : Profile) (j : Judge) → passes p j ≡ true → (ls : List Line) × (after p Waiting ls ≡ j)
passes_reached p Waiting h = ([], refl)
passes_reached p (Due zero s) h = absurd (let z = passes_low p zero s h in omega arith)
passes_reached p (Due (suc n) None) h =
    (lines_before p On (suc n), reach p On (suc n) (passes_high p (suc n) None h) ∙ simp (le-leb (suc n) (settling_place p) (within_high 1 (settling_place p) (suc n) h)))
passes_reached p (Due (suc n) (Some b)) h =
    (lines_before p b (suc n), reach p b (suc n) (passes_high p (suc n) (Some b) h) ∙ simp (lt-leb (suc n) (settling_place p) (omega (arith, within_low (settling_place p + 1) (last_place p) (suc n) h))))

-- a whole frame is Complete wherever the judge is: in another frame its first line is refused, and opens it
pub frame_complete_anywhere : (p : Profile) (j : Judge) → passes p j ≡ true → (b : Borders) (ls : List Line) → IsFrame p b ls → Completes p j (called p j (line (kind_number SOF) 0)).ruling ls
frame_complete_anywhere p j h b [] f = absurd (let e = f.0 in omega arith)
frame_complete_anywhere p j h b (l ∷ []) f = absurd (let e = f.0 in omega (arith, settling_early p))
frame_complete_anywhere p j h b (l ∷ m ∷ ls) f =
    let s : Line = line (kind_number SOF) 0 in
    let v : Ruling = (called p j s).ruling in
    let e : length ls ≡ last_place p - 1 = (let e = f.0 in omega arith) in
    let c = from_call p j s (gives begun v) (m ∷ ls) (ap (λ (x : Judge). gives x v) (sof_opens p j h)) in
    let r = subst (λ (x : Judge). (rulings p x (m ∷ ls) ≡ to_complete (length ls)) × (after p x (m ∷ ls) ≡ Waiting)) (judge_begun p b)
    (rest_complete p b 0 m ls (omega (arith, settling_early p)) (and_right (is_laid_out_at p b 0 l) _ f.1)) in
    subst (λ (x : Line). Completes p j v (x ∷ m ∷ ls)) (sym (first_is p b l (and_left _ _ f.1)))
    (c.0 ∙ ap (λ (vs : List Ruling). v ∷ vs) (r.0 ∙ ap to_complete e), c.1 ∙ r.1)

-- from a waiting judge: Going for each line but the last, then Complete
pub frame_complete_lem : (p : Profile) (b : Borders) (ls : List Line) → IsFrame p b ls → (rulings p Waiting ls ≡ to_complete (last_place p)) × (after p Waiting ls ≡ Waiting)
unfolding judge_of
frame_complete_lem VV5404 b ls f = frame_complete_anywhere VV5404 Waiting refl b ls f
frame_complete_lem VV5300 b ls f = frame_complete_anywhere VV5300 Waiting refl b ls f

-- a line that is due at the last place, where the borders are settled, ends a whole frame
last_ends_frame : (p : Profile) (past : List Line) (place : ℕ) (s : Option Borders) (l : Line) → passes p (Due place s) ≡ true → IsDue p s place l → last_place p ≤ place
    → Traced p past (Due place s) → (b : Borders) × (earlier : List Line) × (frame : List Line) × (past ++ (l ∷ []) ≡ earlier ++ frame) × IsFrame p b frame
last_ends_frame p past place None l h d g t = absurd (omega (arith, settling_early p, within_high 1 (settling_place p) place h))
last_ends_frame p past place (Some b) l h d g t = by (longer p past place (Some b) l h d t)
  where
    by : Traced p (past ++ (l ∷ [])) (Due (suc place) (Some b))
        → (b : Borders) × (earlier : List Line) × (frame : List Line) × (past ++ (l ∷ []) ≡ earlier ++ frame) × IsFrame p b frame
    by (earlier, frame, e, f) =
        (b, earlier, frame, e, subst (λ (n : ℕ). FirstLines p b n frame) (omega (arith, passes_high p place (Some b) h)) (f b refl))

-- if a call is answered Complete, the accepted lines up to it end in exactly the lines of a frame, borders on or off: no damaged frame is Complete
pub complete_frame : (p : Profile) (ls : List Line) (l : Line) → (called p (after p Waiting ls) l).ruling ≡ ruling.Complete
    → (b : Borders) × (earlier : List Line) × (frame : List Line) × (accepted p Waiting (ls ++ (l ∷ [])) ≡ earlier ++ frame) × IsFrame p b frame
complete_frame p ls l v =
    let j : Judge = after p Waiting ls in
    let past : List Line = accepted p Waiting ls in
    let t : passes p j ≡ true = reached_passes p ls in
    let f = ends_only p j l (called p j l) (effect p j l t) v in
    let all : accepted p Waiting (ls ++ (l ∷ [])) ≡ past ++ (l ∷ []) = accepted_snoc p Waiting ls l ∙ ap (λ (a : Ruling). past ++ cond (accepts a) (l ∷ []) []) v in
    subst (λ (x : List Line). (b : Borders) × (earlier : List Line) × (frame : List Line) × (x ≡ earlier ++ frame) × IsFrame p b frame) (sym all)
    (last_ends_frame p past f.0 f.1 l (subst (λ (i : Judge). passes p i ≡ true) f.2 t) f.3 f.4
    (subst (λ (i : Judge). Traced p past i) f.2 (traced p [] Waiting ls refl tt)))
