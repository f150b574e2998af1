-- The table of what came tells exactly whether a frame is covered: lines of different kind or number have different cells (CoveredLaws), so that each
-- cell says whether its line was handed out. A frame that the judge found complete is covered: each of its lines was handed out. And what some answers
-- cover is covered by all that have these lines among them.
use Rattle.std.specs.Prelude.{◌≡◌, refl, Bool, true, false, ◌&&◌, ◌||◌, cond, List, [], ◌∷◌, ◌++◌, ◌↔◌, ℕ, zero, suc, ◌+◌, ◌*◌, ◌≤◌, ◌<◌, eqb, ltb, length, set, None}
use Rattle.std.proofs.Common.{◌∙◌, ap, ap₂, sym, subst, true≢false, not-suc-le-zero, arith, lit≤, length-set, le-ltb}
use Rattle.std.proofs.Math.Bool.{or-true, or-false, or_assoc}
use Rattle.std.proofs.lemmas.List.{length-replicate, get_or-replicate}
use Rattle.bits.specs.Every.{and_left, and_right, and_both, every, each}
use Rattle.bits.specs.Tests.{or_other, sides}
use Rattle.counts.specs.CountsLaws.{some}
use Rattle.line_code.specs.declared.Kind.{Kind}
use Rattle.line_code.specs.declared.Kind.TheVariants.{BL, BK, VL, SOF, EOF}
use Rattle.line_code.specs.LineCode.{kind_number}
use Rattle.profile.specs.declared.Profile.{Profile}
use Rattle.stream.specs.declared.LineFacts.{LineFacts}
use Rattle.stream.specs.declared.Answer.{Answer}
use Rattle.stream.specs.declared.Answer.TheVariants as answer
use Rattle.frame_layout.specs.declared.Borders.{Borders}
use Rattle.frame_layout.specs.declared.Borders.TheVariants.{On, Off}
use Rattle.frame_judge.specs.declared.Judge.{Judge}
use Rattle.frame_judge.specs.declared.Judge.TheVariants.{Waiting}
use Rattle.frame_judge.specs.declared.Ruling.{Ruling}
use Rattle.frame_judge.specs.declared.Ruling.TheVariants as ruling
use Rattle.frame_layout.specs.FrameLayout.{end_place, kind_at_place, number_due, due_at}
use Rattle.frame_layout.specs.PlaceLaws.{last_small, end_within}
use Rattle.frame_judge.specs.Frame.{broken_kind}
use Rattle.frame_judge.specs.Calls.{Line, called, after, rulings, is_complete, accepts, accepted, is_laid_out_at, laid_from, IsFrame}
use Rattle.frame_handing.specs.Handing.{is_broken_line, hand, as_lines, handed_lines, all_handed}
use Rattle.frame_laws.proofs.WholeFrames.{complete_frame}
use Rattle.coverage.specs.Coverage.{cell_of, none_came, with_line, with_answer, has_come, all_came, is_covered}
use Rattle.coverage_laws.specs.AmongAnswers.{LineAmong, DueAmong}
use Rattle.coverage_laws.specs.Covered.{is_due_line, CoveredIn, Covered, came_after}
use Rattle.coverage_laws.specs.CoveredLaws.{with_there}

-- One of a list.

or_first : (a b : Bool) → a ≡ true → (a || b) ≡ true
or_first true b h = refl
or_first false b h = absurd (true≢false (sym h))

or_second : (a b : Bool) → b ≡ true → (a || b) ≡ true
or_second true b h = refl
or_second false b h = h

some_alike : {A : Type 0} (f g : A → Bool) → ((x : A) → f x ≡ g x) → (w : List A) → some f w ≡ some g w
some_alike f g same [] = refl
some_alike f g same (x ∷ w) = ap₂ ◌||◌ (same x) (some_alike f g same w)

some_append : {A : Type 0} (which : A → Bool) (v w : List A) → some which (v ++ w) ≡ (some which v || some which w)
some_append which [] w = refl
some_append which (x ∷ v) w = ap (λ (b : Bool). which x || b) (some_append which v w) ∙ sym (or_assoc (which x) (some which v) (some which w))

-- one of the first part, or of the second, is one of both
some_before : {A : Type 0} (which : A → Bool) (v w : List A) → some which v ≡ true → some which (v ++ w) ≡ true
some_before which v w h = some_append which v w ∙ or_first (some which v) (some which w) h

some_after : {A : Type 0} (which : A → Bool) (v w : List A) → some which w ≡ true → some which (v ++ w) ≡ true
some_after which v w h = some_append which v w ∙ or_second (some which v) (some which w) h

-- The cells of the table.

kind_small : (k : Kind) → kind_number k < 6
kind_small BL = lit≤ tt
kind_small BK = lit≤ tt
kind_small VL = lit≤ tt
kind_small SOF = lit≤ tt
kind_small EOF = lit≤ tt

-- an answer is a line of this kind number and number
abbrev is_line_with : ℕ → ℕ → Answer → Bool
is_line_with k n answer.Nothing = false
is_line_with k n (answer.Line f) = eqb (kind_number f.kind) k && eqb f.number n
is_line_with k n (answer.Gap g) = false
is_line_with k n (answer.Refused m) = false

with_length : (came : List ℕ) (k n : ℕ) → length (with_line came k n) ≡ length came
unfolding with_line
with_length came k n = either (ltb (cell_of k n) (length came))
  where
    either : (b : Bool) → length (cond b (set came (cell_of k n) 1) came) ≡ length came
    either true = length-set came (cell_of k n) 1
    either false = refl

answer_length : (came : List ℕ) (a : Answer) → length (with_answer came a) ≡ length came
answer_length came answer.Nothing = refl
answer_length came (answer.Line f) = with_length came (kind_number f.kind) f.number
answer_length came (answer.Gap g) = refl
answer_length came (answer.Refused n) = refl

answer_there : (came : List ℕ) (a : Answer) (k n : ℕ) → k < 6 → cell_of k n < length came
    → has_come (with_answer came a) k n ≡ (is_line_with k n a || has_come came k n)
answer_there came answer.Nothing k n small h = refl
answer_there came (answer.Line f) k n small h = with_there came (kind_number f.kind) f.number k n (kind_small f.kind) small h
answer_there came (answer.Gap g) k n small h = refl
answer_there came (answer.Refused m) k n small h = refl

-- a cell after some answers: filled before, or by a line among them
came_there : (came : List ℕ) (w : List Answer) (k n : ℕ) → k < 6 → cell_of k n < length came
    → has_come (came_after came w) k n ≡ (has_come came k n || some (is_line_with k n) w)
came_there came [] k n small h = sym (or-false (has_come came k n))
came_there came (a ∷ w) k n small h =
    came_there (with_answer came a) w k n small (omega (arith, answer_length came a))
    ∙ ap (λ (b : Bool). b || some (is_line_with k n) w) (answer_there came a k n small h)
    ∙ turn (is_line_with k n a) (has_come came k n)
  where
    turn : (b c : Bool) → ((b || c) || some (is_line_with k n) w) ≡ (c || (b || some (is_line_with k n) w))
    turn true c = sym (or-true c)
    turn false c = refl

-- after a capture's answers: by a line among them
came_line : (w : List Answer) (k n : ℕ) → k < 6 → n < 304 → has_come (came_after none_came w) k n ≡ some (is_line_with k n) w
came_line w k n small h =
    let within : cell_of k n < 6 * 304 = omega arith in
    came_there none_came w k n small (subst (λ (m : ℕ). cell_of k n < m) (sym (length-replicate {A = ℕ} (6 * 304) 0)) within)
    ∙ ap (λ (c : ℕ). eqb c 1 || some (is_line_with k n) w) (get_or-replicate (6 * 304) (cell_of k n) 0 0 within)

-- The layout's places.

-- the kind number of the line at a place
abbrev kind_there : Profile → Borders → ℕ → ℕ
kind_there p b place = kind_number (kind_at_place p b place)

-- up to the EOF line a line is due at its number's place alone
due_there : (p : Profile) (b : Borders) (place : ℕ) → place ≤ end_place p b → (a : Answer)
    → is_due_line p b place a ≡ is_line_with (kind_there p b place) place a
due_there p b place h answer.Nothing = refl
due_there p b place h (answer.Line f) = simp (le-ltb (end_place p b) place h, or-false)
due_there p b place h (answer.Gap g) = refl
due_there p b place h (answer.Refused n) = refl

-- the table tells of each place up to the EOF line's whether a line that is due there was handed out
came_due : (p : Profile) (b : Borders) (w : List Answer) (place : ℕ) → place ≤ end_place p b
    → has_come (came_after none_came w) (kind_there p b place) place ≡ some (is_due_line p b place) w
came_due p b w place h =
    came_line w (kind_there p b place) place (kind_small (kind_at_place p b place)) (omega (arith, end_within p b, last_small p))
    ∙ sym (some_alike (is_due_line p b place) (is_line_with (kind_there p b place) place) (due_there p b place h) w)

-- at every place
came_every : (p : Profile) (b : Borders) (came : List ℕ) (n : ℕ) → all_came p b came n ≡ every (λ place. has_come came (kind_there p b place) place) n
came_every p b came zero = refl
came_every p b came (suc n) = ap (λ (t : Bool). has_come came (kind_there p b n) n && t) (came_every p b came n)

every_below : (f : ℕ → Bool) (n : ℕ) → ((i : ℕ) → i < n → f i ≡ true) → every f n ≡ true
every_below f zero h = refl
every_below f (suc n) h = and_both (f n) (every f n) (h n (omega arith)) (every_below f n (λ i l. h i (omega arith)))

-- of one layout
came_in : (p : Profile) (b : Borders) (w : List Answer) → (all_came p b (came_after none_came w) (end_place p b + 1) ≡ true) ↔ CoveredIn p b w
came_in p b w = (
  λ t place h. sym (came_due p b w place (omega arith)) ∙ each here count (sym (came_every p b came count) ∙ t) place (omega arith),
  λ c. came_every p b came count ∙ every_below here count (λ place l. came_due p b w place (omega arith) ∙ c place (omega arith)),
)
  where
    came : List ℕ
    came = came_after none_came w

    count : ℕ
    count = end_place p b + 1

    here : ℕ → Bool
    here place = has_come came (kind_there p b place) place

-- the table says that a frame is covered exactly where it is
pub covered_exactly : (p : Profile) (w : List Answer) → (is_covered p (came_after none_came w) ≡ true) ↔ Covered p w
unfolding is_covered
covered_exactly p w = (either, back)
  where
    all : Borders → Bool
    all b = all_came p b (came_after none_came w) (end_place p b + 1)

    either : (all On || all Off) ≡ true → Covered p w
    either t = sides (all On) (λ e. (On, (came_in p On w).0 e)) (λ e. (Off, (came_in p Off w).0 (or_other (all On) (all Off) t e)))

    back : Covered p w → (all On || all Off) ≡ true
    back (On, c) = or_first (all On) (all Off) ((came_in p On w).1 c)
    back (Off, c) = or_second (all On) (all Off) ((came_in p Off w).1 c)

-- A complete frame.

complete_is : (r : Ruling) → is_complete r ≡ true → r ≡ ruling.Complete
complete_is ruling.Waiting h = absurd (true≢false (sym h))
complete_is ruling.Going h = absurd (true≢false (sym h))
complete_is ruling.Complete h = refl
complete_is (ruling.Refused refusal) h = absurd (true≢false (sym h))

-- a line is answered Complete, after those before it
abbrev CompleteAt : Profile → Judge → List Line → Type 0
CompleteAt p j ls = (before : List Line) × (l : Line) × (later : List Line) × (ls ≡ (before ++ (l ∷ [])) ++ later)
    × ((called p (after p j before) l).ruling ≡ ruling.Complete)

complete_at : (p : Profile) (j : Judge) (ls : List Line) → some is_complete (rulings p j ls) ≡ true → CompleteAt p j ls
complete_at p j [] h = absurd (true≢false (sym h))
complete_at p j (l ∷ ls) h =
    sides (is_complete (called p j l).ruling)
    (λ e. ([], l, ls, refl, complete_is (called p j l).ruling e))
    (λ e. later (complete_at p (called p j l).judge ls (or_other (is_complete (called p j l).ruling) _ h e)))
  where
    later : CompleteAt p (called p j l).judge ls → CompleteAt p j (l ∷ ls)
    later (before, m, rest, e, c) = (l ∷ before, m, rest, ap {B = List Line} (λ x. l ∷ x) e, c)

-- a line of a frame is one of those handed to the judge
accepted_handed : (which : Line → Bool) (p : Profile) (j : Judge) (ls : List Line) → some which (accepted p j ls) ≡ true → some which ls ≡ true
accepted_handed which p j [] h = h
accepted_handed which p j (l ∷ ls) h = go (accepts (called p j l).ruling) (accepted_handed which p (called p j l).judge ls) h
  where
    more : List Line
    more = accepted p (called p j l).judge ls

    go : (b : Bool) → (some which more ≡ true → some which ls ≡ true) → some which (cond b (l ∷ []) [] ++ more) ≡ true
        → (which l || some which ls) ≡ true
    go true on h =
        sides (which l) (or_first (which l) (some which ls)) (λ e. or_second (which l) (some which ls) (on (or_other (which l) _ h e)))
    go false on h = or_second (which l) (some which ls) (on h)

-- lines as laid out from a place on: one for each place
laid_at : (p : Profile) (b : Borders) (from : ℕ) (ls : List Line) → laid_from p b from ls ≡ true → (place i : ℕ) → from + i ≡ place → i < length ls
    → some (is_laid_out_at p b place) ls ≡ true
laid_at p b from [] h place i e l = absurd (not-suc-le-zero l)
laid_at p b from (x ∷ ls) h place zero e l =
    or_first (is_laid_out_at p b place x) _
    (subst (λ (n : ℕ). is_laid_out_at p b n x ≡ true) (omega arith) (and_left (is_laid_out_at p b from x) _ h))
laid_at p b from (x ∷ ls) h place (suc i) e l =
    or_second (is_laid_out_at p b place x) _ (laid_at p b (suc from) ls (and_right (is_laid_out_at p b from x) _ h) place i (omega arith) (omega arith))

-- the line of an answer 1 to 7 is laid out nowhere
broken_nowhere : (k : Kind) → eqb broken_kind (kind_number k) ≡ false
broken_nowhere BL = refl
broken_nowhere BK = refl
broken_nowhere VL = refl
broken_nowhere SOF = refl
broken_nowhere EOF = refl

-- a line laid out at a place comes from an answer that is a line due there
handed_due : (p : Profile) (b : Borders) (place : ℕ) (a : Answer) → some (is_laid_out_at p b place) (handed_lines a) ≡ true → is_due_line p b place a ≡ true
handed_due p b place answer.Nothing h = h
handed_due p b place (answer.Line f) h = and_left (due_at p b place (kind_number f.kind) f.number) _ (sym (or-false _) ∙ h)
handed_due p b place (answer.Gap g) h = h
handed_due p b place (answer.Refused r) h = go (is_broken_line r.0) h
  where
    go : (t : Bool) → some (is_laid_out_at p b place) (as_lines (cond t (hand broken_kind 0) None)) ≡ true → false ≡ true
    go true h = sym (ap (λ (t : Bool). ((t && number_due p b place 0) && true) || false) (broken_nowhere (kind_at_place p b place))) ∙ h
    go false h = h

all_handed_due : (p : Profile) (b : Borders) (place : ℕ) (w : List Answer) → some (is_laid_out_at p b place) (all_handed w) ≡ true
    → some (is_due_line p b place) w ≡ true
all_handed_due p b place [] h = h
all_handed_due p b place (a ∷ w) h =
    sides (some (is_laid_out_at p b place) (handed_lines a))
    (λ e. or_first (is_due_line p b place a) _ (handed_due p b place a e))
    (λ e. or_second (is_due_line p b place a) _
    (all_handed_due p b place w (or_other _ _ (sym (some_append (is_laid_out_at p b place) (handed_lines a) (all_handed w)) ∙ h) e)))

-- the lines of a frame that the judge found complete cover its layout
pub complete_covers : (p : Profile) (w : List Answer) → some is_complete (rulings p Waiting (all_handed w)) ≡ true → Covered p w
complete_covers p w h = found (complete_at p Waiting (all_handed w) h)
  where
    in_frame : (before : List Line) (l : Line) (rest : List Line) → all_handed w ≡ (before ++ (l ∷ [])) ++ rest
        → (b : Borders) × (earlier : List Line) × (frame : List Line) × (accepted p Waiting (before ++ (l ∷ [])) ≡ earlier ++ frame)
        × IsFrame p b frame → Covered p w
    in_frame before l rest e (b, earlier, frame, q, isf) = (
      b,
      λ place s.
          let which : Line → Bool = is_laid_out_at p b place in
          let there : some which frame ≡ true = laid_at p b 0 frame isf.1 place place (omega arith) (omega (arith, isf.0, end_within p b)) in
          let taken : some which (accepted p Waiting (before ++ (l ∷ []))) ≡ true = ap (some which) q ∙ some_after which earlier frame there in
          let handed : some which (before ++ (l ∷ [])) ≡ true = accepted_handed which p Waiting (before ++ (l ∷ [])) taken in
          all_handed_due p b place w (ap (some which) e ∙ some_before which (before ++ (l ∷ [])) rest handed),
    )

    found : CompleteAt p Waiting (all_handed w) → Covered p w
    found (before, l, rest, e, c) = in_frame before l rest e (complete_frame p before l c)

-- Lines among the answers.

due_among : (p : Profile) (b : Borders) (place : ℕ) (w : List Answer) → some (is_due_line p b place) w ≡ true → DueAmong p b place w
due_among p b place [] h = absurd (true≢false (sym h))
due_among p b place (a ∷ w) h =
    sides (is_due_line p b place a) (first a) (λ e. later (due_among p b place w (or_other (is_due_line p b place a) _ h e)))
  where
    first : (x : Answer) → is_due_line p b place x ≡ true → DueAmong p b place (x ∷ w)
    first answer.Nothing e = absurd (true≢false (sym e))
    first (answer.Line f) e = (f, e, ([], w, refl))
    first (answer.Gap g) e = absurd (true≢false (sym e))
    first (answer.Refused n) e = absurd (true≢false (sym e))

    later : DueAmong p b place w → DueAmong p b place (a ∷ w)
    later (f, due, (before, rest, e)) = (f, due, (a ∷ before, rest, ap {B = List Answer} (λ x. a ∷ x) e))

among_due : (p : Profile) (b : Borders) (place : ℕ) (w : List Answer) → DueAmong p b place w → some (is_due_line p b place) w ≡ true
among_due p b place w (f, due, (before, rest, e)) =
    let which : Answer → Bool = is_due_line p b place in
    ap (some which) e ∙ some_after which before (answer.Line f ∷ rest) (or_first (which (answer.Line f)) _ due)

-- a layout is covered exactly where a line that is due at each place up to the EOF line's is among the answers
pub lines_cover : (p : Profile) (b : Borders) (w : List Answer) → CoveredIn p b w ↔ ((place : ℕ) → place ≤ end_place p b → DueAmong p b place w)
lines_cover p b w = (λ c place h. due_among p b place w (c place h), λ d place h. among_due p b place w (d place h))

-- whatever has among its answers the lines that cover a layout covers it
pub more_covers : (p : Profile) (b : Borders) (v w : List Answer) → ((f : LineFacts) → LineAmong f v → LineAmong f w)
    → CoveredIn p b v → CoveredIn p b w
more_covers p b v w among c place h = also (due_among p b place v (c place h))
  where
    also : DueAmong p b place v → some (is_due_line p b place) w ≡ true
    also (f, due, there) = among_due p b place w (f, due, among f there)
