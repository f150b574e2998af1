-- What the judge answers to whole frames with broken lines in the stead of one line: the frame with them ends at the first of them or is never opened,
-- and none of its lines after that opens one, so the judge waits for the next frame.
use Rattle.std.specs.Prelude.{◌≡◌, refl, Bool, true, false, ◌||◌, List, [], ◌∷◌, ◌++◌, map, ℕ, zero, suc, ◌+◌, ◌≤◌, leb, length, take, replicate}
use Rattle.std.proofs.Common.{◌∙◌, ap, ap₂, sym, subst, true≢false, append_assoc, not-suc-le-zero, le_of_suc-le-suc, arith, length-append, take_at}
use Rattle.std.proofs.lemmas.List.{length-map, replicate-append-replicate}
use Rattle.bits.specs.Every.{and_left, and_right}
use Rattle.refusal.specs.Refusal.{broken_line}
use Rattle.counts.specs.CountsLaws.{some}
use Rattle.line_code.specs.declared.Kind.{Kind}
use Rattle.line_code.specs.declared.Kind.TheVariants.{BL, BK, VL, SOF, EOF}
use Rattle.line_code.specs.LineCode.{kind_number}
use Rattle.line_number.specs.LineNumber.{greatest}
use Rattle.profile.specs.declared.Profile.TheVariants.{VV5404}
use Rattle.stream.specs.Written.{Sent}
use Rattle.frame_layout.specs.declared.Borders.{Borders}
use Rattle.frame_judge.specs.declared.Judge.{Judge}
use Rattle.frame_judge.specs.declared.Judge.TheVariants.{Waiting, Due}
use Rattle.frame_judge.specs.declared.Ruling.{Ruling}
use Rattle.frame_judge.specs.declared.Ruling.TheVariants as ruling
use Rattle.frame_judge.specs.declared.Judged.{Judged}
use Rattle.frame_layout.specs.FrameLayout.{last_place, stands_at, due_at}
use Rattle.frame_layout.specs.PlaceLaws.{sof_only_first}
use Rattle.frame_judge.specs.Frame.{passes, gives, refuses, judge_of}
use Rattle.frame_judge.specs.Calls.{Line, line, called, after, rulings, is_complete, is_laid_out_at, laid_from, IsFrame}
use Rattle.frame_laws.specs.CompleteFrames.{to_complete}
use Rattle.frame_laws.specs.FrameLaws.{after_append, rulings_append, Effect, wrong_kind, wrong_number, waits, breaks, strays, starts, restarts, goes, ends, effect, passes_after}
use Rattle.frame_laws.proofs.WholeFrames.{frame_complete_lem}
use Rattle.frame_laws.specs.SentFrames.{judged_line, all_lines, AllFrames, no_frames, and_frame}
use Rattle.slip_laws.specs.SlipFrames.{all_complete, at_slip, lost}
use Rattle.slip_laws.proofs.LeftHanded.{broken_one}

-- the judge in j answers vs to these lines, and is then in k
record Judging (j : Judge) (ls : List Line) (vs : List Ruling) (k : Judge) : Type 0 where
  told : rulings VV5404 j ls ≡ vs
  leads : after VV5404 j ls ≡ k

judging_then : {j k i : Judge} {ls ms : List Line} {vs ws : List Ruling} → Judging j ls vs k → Judging k ms ws i → Judging j (ls ++ ms) (vs ++ ws) i
judging_then {j} {k} {i} {ls} {ms} p q =
    record {
      told = rulings_append VV5404 j ls ms ∙ ap₂ ◌++◌ p.told (ap (λ (x : Judge). rulings VV5404 x ms) p.leads ∙ q.told);
      leads = after_append VV5404 j ls ms ∙ ap (λ (x : Judge). after VV5404 x ms) p.leads ∙ q.leads;
    }

judging_one : {j k : Judge} {l : Line} {v : Ruling} → called VV5404 j l ≡ gives k v → Judging j (l ∷ []) (v ∷ []) k
judging_one e = record { told = ap (λ (r : Judged). r.ruling ∷ []) e; leads = ap (λ (r : Judged). r.judge) e }

handed_append : (ss ts : List Sent) → map judged_line (ss ++ ts) ≡ map judged_line ss ++ map judged_line ts
handed_append [] ts = refl
handed_append (s ∷ ss) ts = ap (λ (ls : List Line). judged_line s ∷ ls) (handed_append ss ts)

-- Whole frames.

frames_complete : {fs : List (List Sent)} → AllFrames VV5404 fs → Judging Waiting (map judged_line (all_lines fs)) (all_complete fs) Waiting
frames_complete no_frames = record { told = refl; leads = refl }
frames_complete (and_frame b {ss = f} {fs = fs} h more) =
    let c = frame_complete_lem VV5404 b (map judged_line f) h in
    let first : Judging Waiting (map judged_line f) (to_complete (last_place VV5404)) Waiting = record { told = c.0; leads = c.1 } in
    subst (λ (ls : List Line). Judging Waiting ls (all_complete (f ∷ fs)) Waiting) (sym (handed_append f (all_lines fs))) (judging_then first (frames_complete more))

-- The lines before the slip.

take_replicate : (n m : ℕ) (a : Ruling) (t : List Ruling) → n ≤ m → take n (replicate m a ++ t) ≡ replicate n a
take_replicate zero m a t h = refl
take_replicate (suc n) zero a t h = absurd (not-suc-le-zero h)
take_replicate (suc n) (suc m) a t h = ap (λ (vs : List Ruling). a ∷ vs) (take_replicate n m a t (le_of_suc-le-suc h))

rulings_length : (j : Judge) (ls : List Line) → length (rulings VV5404 j ls) ≡ length ls
rulings_length j [] = refl
rulings_length j (l ∷ ls) = ap suc (rulings_length (called VV5404 j l).judge ls)

first_going : (b : Borders) (ls : List Line) (l : Line) (ms : List Line) → IsFrame VV5404 b (ls ++ (l ∷ ms))
    → rulings VV5404 Waiting ls ≡ replicate (length ls) ruling.Going
first_going b ls l ms f =
    sym (take_at (rulings VV5404 Waiting ls) (rulings VV5404 (after VV5404 Waiting ls) (l ∷ ms)) (length ls) (rulings_length Waiting ls))
    ∙ ap (take (length ls)) (sym (rulings_append VV5404 Waiting ls (l ∷ ms)) ∙ (frame_complete_lem VV5404 b (ls ++ (l ∷ ms)) f).0)
    ∙ take_replicate (length ls) (last_place VV5404) ruling.Going (ruling.Complete ∷ []) (omega (arith, f.0, length-append ls (l ∷ ms)))

-- after Going the judge is within a frame
abbrev is_due : Judge → Bool
is_due Waiting = false
is_due (Due place b) = true

going_due : (j : Judge) (l : Line) → passes VV5404 j ≡ true → (called VV5404 j l).ruling ≡ ruling.Going → is_due (called VV5404 j l).judge ≡ true
going_due j l h = by (called VV5404 j l) (effect VV5404 j l h)
  where
    by : (r : Judged) → Effect VV5404 j l r → r.ruling ≡ ruling.Going → is_due r.judge ≡ true
    by _ wrong_kind e = cc
    by _ wrong_number e = cc
    by _ waits e = cc
    by _ breaks e = cc
    by _ strays e = cc
    by _ (starts q o) e = refl
    by _ (restarts o) e = cc
    by _ (goes place b q d g) e = refl
    by _ (ends place b q d g) e = cc

lines_due : (j : Judge) (l : Line) (ls : List Line) → passes VV5404 j ≡ true → rulings VV5404 j (l ∷ ls) ≡ replicate (length (l ∷ ls)) ruling.Going
    → is_due (after VV5404 j (l ∷ ls)) ≡ true
lines_due j l [] h e = let a : (called VV5404 j l).ruling ≡ ruling.Going = cc in going_due j l h a
lines_due j l (m ∷ ls) h e =
    let b : rulings VV5404 (called VV5404 j l).judge (m ∷ ls) ≡ replicate (length (m ∷ ls)) ruling.Going = cc in
    lines_due (called VV5404 j l).judge m ls (passes_after VV5404 j (l ∷ []) h) b

-- The broken lines.

broken_waiting : called VV5404 Waiting broken_one ≡ gives Waiting ruling.Waiting
unfolding judge_of
broken_waiting = refl

broken_due : (j : Judge) → passes VV5404 j ≡ true → is_due j ≡ true → called VV5404 j broken_one ≡ refuses Waiting broken_line
unfolding judge_of
broken_due Waiting h d = absurd (true≢false (sym d))
broken_due (Due place b) h d = simp h

at_slip_lem : (front : List Sent) → rulings VV5404 Waiting (map judged_line front) ≡ replicate (length (map judged_line front)) ruling.Going
    → called VV5404 (after VV5404 Waiting (map judged_line front)) broken_one ≡ gives Waiting (at_slip front)
at_slip_lem [] e = broken_waiting
at_slip_lem (s ∷ ss) e =
    broken_due (after VV5404 Waiting (judged_line s ∷ map judged_line ss)) (passes_after VV5404 Waiting (judged_line s ∷ map judged_line ss) refl)
    (lines_due Waiting (judged_line s) (map judged_line ss) refl e)

still_waiting : (n : ℕ) → Judging Waiting (replicate n broken_one) (replicate n ruling.Waiting) Waiting
still_waiting zero = record { told = refl; leads = refl }
still_waiting (suc n) = judging_then (judging_one broken_waiting) (still_waiting n)

-- The lines after the slip: none opens a frame.

waits_on : (b : Borders) (n : ℕ) (k : Kind) (number : ℕ) → is_laid_out_at VV5404 b (suc n) (line (kind_number k) number) ≡ true
    → called VV5404 Waiting (line (kind_number k) number) ≡ gives Waiting ruling.Waiting
unfolding judge_of
waits_on b n k number f = go k (and_left _ _ (and_left _ _ f)) (and_right (due_at VV5404 b (suc n) (kind_number k) number) _ f)
  where
    go : (k : Kind) → stands_at VV5404 b (suc n) (kind_number k) ≡ true → leb number greatest ≡ true
        → judge_of VV5404 Waiting (kind_number k) number ≡ gives Waiting ruling.Waiting
    go BL s h = simp h
    go BK s h = simp h
    go VL s h = simp h
    go SOF s h = absurd (true≢false (sym s ∙ sof_only_first VV5404 b n))
    go EOF s h = simp h

rest_waits : (b : Borders) (n : ℕ) (ss : List Sent) → laid_from VV5404 b (suc n) (map judged_line ss) ≡ true
    → Judging Waiting (map judged_line ss) (replicate (length ss) ruling.Waiting) Waiting
rest_waits b n [] f = record { told = refl; leads = refl }
rest_waits b n (s ∷ ss) f =
    judging_then (judging_one (waits_on b n s.kind s.number (and_left _ _ f)))
    (rest_waits b (suc n) ss (and_right (is_laid_out_at VV5404 b (suc n) (judged_line s)) _ f))

laid_drop : (b : Borders) (place n : ℕ) (ls ms : List Line) → n ≡ place + length ls → laid_from VV5404 b place (ls ++ ms) ≡ true → laid_from VV5404 b n ms ≡ true
laid_drop b place n [] ms e f = subst (λ (m : ℕ). laid_from VV5404 b m ms ≡ true) (omega arith) f
laid_drop b place n (l ∷ ls) ms e f = laid_drop b (suc place) n ls ms (omega arith) (and_right (is_laid_out_at VV5404 b place l) _ f)

-- The frame that the slip fell in.

frame_lost : (b : Borders) (front : List Sent) (s : Sent) (back : List Sent) → IsFrame VV5404 b (map judged_line (front ++ (s ∷ back))) → (more : ℕ)
    → Judging Waiting (map judged_line front ++ ((broken_one ∷ replicate more broken_one) ++ map judged_line back)) (lost front back more) Waiting
frame_lost b front s back f more =
    let ls : List Line = map judged_line front in
    let ms : List Line = map judged_line back in
    let fr : IsFrame VV5404 b (ls ++ (judged_line s ∷ ms)) = subst (IsFrame VV5404 b) (handed_append front (s ∷ back)) f in
    let g = first_going b ls (judged_line s) ms fr in
    let e : length ls ≡ length front = length-map front judged_line in
    let first : Judging Waiting ls (replicate (length front) ruling.Going) (after VV5404 Waiting ls)
    = record { told = g ∙ ap (λ (n : ℕ). replicate n ruling.Going) e; leads = refl } in
    let rest = rest_waits b (length front) back
    (and_right (is_laid_out_at VV5404 b (length front) (judged_line s)) _ (laid_drop b 0 (length front) ls (judged_line s ∷ ms) (omega arith) fr.1)) in
    let says = judging_then first (judging_then (judging_one (at_slip_lem front g)) (judging_then (still_waiting more) rest)) in
    record {
      told =
          says.told
          ∙ ap (λ (vs : List Ruling). replicate (length front) ruling.Going ++ (at_slip front ∷ vs)) (replicate-append-replicate more (length back) ruling.Waiting);
      leads = says.leads;
    }

-- where neither of two lists has one that is so, nor has the whole
pub none_both : (which : Ruling → Bool) (u v : List Ruling) → some which u ≡ false → some which v ≡ false → some which (u ++ v) ≡ false
none_both which [] v h k = k
none_both which (x ∷ u) v h k = go (which x) h (none_both which u v)
  where
    go : (b : Bool) → (b || some which u) ≡ false → (some which u ≡ false → some which v ≡ false → some which (u ++ v) ≡ false) → (b || some which (u ++ v)) ≡ false
    go true e more = absurd (true≢false e)
    go false e more = more e k

pub none_all : (which : Ruling → Bool) (v : Ruling) → which v ≡ false → (n : ℕ) → some which (replicate n v) ≡ false
none_all which v e zero = refl
none_all which v e (suc n) = ap₂ ◌||◌ e (none_all which v e n)

slip_incomplete : (front : List Sent) → is_complete (at_slip front) ≡ false
slip_incomplete [] = refl
slip_incomplete (s ∷ ss) = refl

-- none of its rulings is Complete
pub lost_incomplete : (front back : List Sent) (more : ℕ) → some is_complete (lost front back more) ≡ false
lost_incomplete front back more =
    none_both is_complete (replicate (length front) ruling.Going) _ (none_all is_complete ruling.Going refl (length front))
    (ap₂ ◌||◌ (slip_incomplete front) (none_all is_complete ruling.Waiting refl (more + length back)))

-- where line 0 slipped, all of them are Waiting: neither 18 nor 19 comes
pub first_waits : (back : List Sent) (more : ℕ) → lost [] back more ≡ replicate (suc (more + length back)) ruling.Waiting
first_waits back more = refl

-- Frames with a slip in one of them.

-- the frame f among others is whole, and so are those before it and after it
record Around (fs : List (List Sent)) (f : List Sent) (gs : List (List Sent)) : Type 0 where
  earlier : AllFrames VV5404 fs
  borders : Borders
  whole : IsFrame VV5404 borders (map judged_line f)
  later : AllFrames VV5404 gs

around : (fs : List (List Sent)) (f : List Sent) (gs : List (List Sent)) → AllFrames VV5404 (fs ++ (f ∷ gs)) → Around fs f gs
around [] f gs (and_frame b h more) = record { earlier = no_frames; borders = b; whole = h; later = more }
around (e ∷ fs) f gs (and_frame b h more) =
    let q = around fs f gs more in
    record { earlier = and_frame b h q.earlier; borders = q.borders; whole = q.whole; later = q.later }

-- the law
pub one_lost : (fs : List (List Sent)) (front : List Sent) (s : Sent) (back : List Sent) (gs : List (List Sent))
    → AllFrames VV5404 (fs ++ ((front ++ (s ∷ back)) ∷ gs)) → (more : ℕ)
    → rulings VV5404 Waiting (map judged_line (all_lines fs ++ front) ++ ((broken_one ∷ replicate more broken_one) ++ map judged_line (back ++ all_lines gs)))
    ≡ all_complete fs ++ (lost front back more ++ all_complete gs)
one_lost fs front s back gs h more =
    let q = around fs (front ++ (s ∷ back)) gs h in
    let F : List Line = map judged_line (all_lines fs) in
    let B : List Line = map judged_line front in
    let N : List Line = broken_one ∷ replicate more broken_one in
    let A : List Line = map judged_line back in
    let G : List Line = map judged_line (all_lines gs) in
    let together : map judged_line (all_lines fs ++ front) ++ (N ++ map judged_line (back ++ all_lines gs)) ≡ F ++ ((B ++ (N ++ A)) ++ G)
    = ap₂ (λ (u v : List Line). u ++ (N ++ v)) (handed_append (all_lines fs) front) (handed_append back (all_lines gs)) ∙ simp append_assoc in
    ap (rulings VV5404 Waiting) together
    ∙ (judging_then (frames_complete q.earlier) (judging_then (frame_lost q.borders front s back q.whole more) (frames_complete q.later))).told
