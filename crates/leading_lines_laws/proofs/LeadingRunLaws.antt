-- What is kept of lines, one after another, stands exactly where they are a run. Each part goes by itself: the place in a layout goes one further with
-- each line that is due, and is 0 from the first on that is not; the count of blank lines likewise. After the EOF line a line is due where it is a BL.
use Rattle.std.specs.Prelude.{◌≡◌, refl, Bool, true, false, ◌&&◌, ◌||◌, cond, List, [], ◌∷◌, ◌↔◌, ℕ, suc, ◌+◌, ◌-◌, ◌≤◌, ◌<◌, eqb, leb, ltb, length}
use Rattle.std.proofs.Common.{sym, ap, ◌∙◌, true≢false, add-one, arith, lit≤, lt-ltb, le-ltb, ltb-true, ltb-false, le-leb, leb-true, ne_eqb, eqb-true}
use Rattle.std.proofs.Math.Bool.{and-true, and-false, or-true, or-false}
use Rattle.std.proofs.lemmas.Bool.{lt-leb}
use Rattle.bits.specs.Every.{and_both, and_left, and_right}
use Rattle.bits.specs.Tests.{or_other, sides}
use Rattle.line_code.specs.declared.Kind.TheVariants.{BL}
use Rattle.line_code.specs.LineCode.{kind_number}
use Rattle.profile.specs.declared.Profile.{Profile}
use Rattle.profile.specs.declared.Profile.TheVariants.{VV5404, VV5300}
use Rattle.frame_layout.specs.declared.Borders.{Borders}
use Rattle.frame_layout.specs.declared.Borders.TheVariants.{On, Off}
use Rattle.frame_layout.specs.FrameLayout.{last_place, end_place, stands_at, number_due, due_at}
use Rattle.frame_layout.specs.PlaceLaws.{blank_after_lem, end_within}
use Rattle.frame_judge.specs.Calls.{Line, is_laid_out_at, laid_from}
use Rattle.leading_lines.specs.LeadingLines.{first_place, next_place, most_closing, first_blanks, next_blanks, no_lines, with_line, place_stands, is_run}
use Rattle.leading_lines_laws.specs.LeadingRun.{due_from, Run, leading_after}

-- The place due next in a layout.

-- after lines more
abbrev next_place_after : Profile → Borders → ℕ → List Line → ℕ
next_place_after p b place [] = place
next_place_after p b place (l ∷ ls) = next_place_after p b (next_place p b place l.kind l.number) ls

no_place : (p : Profile) (b : Borders) (ls : List Line) → next_place_after p b 0 ls ≡ 0
unfolding next_place
no_place p b [] = refl
no_place p b (l ∷ ls) = no_place p b ls

-- the place after the lines is m, where each is due and m is at most one past the last
place_after_lem : (p : Profile) (b : Borders) (place m : ℕ) (ls : List Line) → 0 < place → place ≤ last_place p + 1 → place + length ls ≡ m
    → next_place_after p b place ls ≡ cond (due_from p b place ls && leb m (last_place p + 1)) m 0
unfolding next_place
place_after_lem p b place m [] h g e = simp (le-leb m (last_place p + 1) (omega (arith, e))) (omega (arith, e))
place_after_lem p b place m (l ∷ ls) h g e =
    simp (ne_eqb place 0 (λ (q : place ≡ 0). omega (arith, q)))
    (by (ltb (last_place p) place) refl (due_at p b place l.kind l.number)
    (λ (q : place ≤ last_place p). place_after_lem p b (suc place) m ls (omega arith) (omega arith) (omega (arith, e))))
  where
    by : (x : Bool) → ltb (last_place p) place ≡ x → (d : Bool)
        → (place ≤ last_place p → next_place_after p b (suc place) ls ≡ cond (due_from p b (suc place) ls && leb m (last_place p + 1)) m 0)
        → next_place_after p b (cond x 0 (cond d (place + 1) 0)) ls ≡ cond ((d && due_from p b (suc place) ls) && leb m (last_place p + 1)) m 0
    by true q d on =
        no_place p b ls
        ∙ sym (simp (lt-leb m (last_place p + 1) (omega (arith, e, ltb-true (last_place p) place q)), and-false (d && due_from p b (suc place) ls)))
    by false q true on = ap (λ (k : ℕ). next_place_after p b k ls) (add-one place) ∙ on (ltb-false (last_place p) place q)
    by false q false on = no_place p b ls

-- lines are due from the place that is the first one's number on, up to the EOF line's, and within a frame
abbrev due_from_number : Profile → Borders → Line → List Line → Bool
due_from_number p b l ls = leb l.number (end_place p b) && (due_from p b l.number (l ∷ ls) && leb (l.number + length (l ∷ ls)) (last_place p + 1))

first_place_lem : (p : Profile) (b : Borders) (l : Line) (ls : List Line)
    → next_place_after p b (first_place p b l.kind l.number) ls ≡ cond (due_from_number p b l ls) (l.number + length (l ∷ ls)) 0
unfolding first_place
first_place_lem p b l ls = by (ltb (end_place p b) l.number) refl (due_at p b l.number l.kind l.number)
  where
    by : (x : Bool) → ltb (end_place p b) l.number ≡ x → (d : Bool)
        → next_place_after p b (cond x 0 (cond d (l.number + 1) 0)) ls
        ≡ cond (leb l.number (end_place p b) && ((d && due_from p b (suc l.number) ls) && leb (l.number + length (l ∷ ls)) (last_place p + 1)))
        (l.number + length (l ∷ ls)) 0
    by true q d = simp (lt-leb l.number (end_place p b) (ltb-true (end_place p b) l.number q)) (no_place p b ls)
    by false q true =
        let h : l.number ≤ end_place p b = ltb-false (end_place p b) l.number q in
        simp (le-leb l.number (end_place p b) h)
        (ap (λ (k : ℕ). next_place_after p b k ls) (add-one l.number)
        ∙ place_after_lem p b (suc l.number) (l.number + length (l ∷ ls)) ls (omega arith) (omega (arith, end_within p b)) (omega arith))
    by false q false = simp (and-false (leb l.number (end_place p b))) (no_place p b ls)

-- Closing blank lines.

-- each line is a BL
abbrev all_blank : List Line → Bool
all_blank [] = true
all_blank (l ∷ ls) = eqb l.kind (kind_number BL) && all_blank ls

-- how many after lines more
abbrev blanks_after : Profile → ℕ → List Line → ℕ
blanks_after p n [] = n
blanks_after p n (l ∷ ls) = blanks_after p (next_blanks p n l.kind) ls

no_blanks : (p : Profile) (ls : List Line) → blanks_after p 0 ls ≡ 0
unfolding next_blanks
no_blanks p [] = refl
no_blanks p (l ∷ ls) = no_blanks p ls

blanks_after_lem : (p : Profile) (n m : ℕ) (ls : List Line) → 0 < n → n ≤ most_closing p → n + length ls ≡ m
    → blanks_after p n ls ≡ cond (all_blank ls && leb m (most_closing p)) m 0
unfolding next_blanks
blanks_after_lem p n m [] h g e = simp (le-leb m (most_closing p) (omega (arith, e))) (omega (arith, e))
blanks_after_lem p n m (l ∷ ls) h g e =
    simp (ne_eqb n 0 (λ (q : n ≡ 0). omega (arith, q)))
    (by (ltb n (most_closing p)) refl (eqb l.kind (kind_number BL))
    (λ (q : n < most_closing p). blanks_after_lem p (suc n) m ls (omega arith) q (omega (arith, e))))
  where
    by : (x : Bool) → ltb n (most_closing p) ≡ x → (d : Bool)
        → (n < most_closing p → blanks_after p (suc n) ls ≡ cond (all_blank ls && leb m (most_closing p)) m 0)
        → blanks_after p (cond x (cond d (n + 1) 0) 0) ls ≡ cond ((d && all_blank ls) && leb m (most_closing p)) m 0
    by false q d on =
        no_blanks p ls ∙ sym (simp (lt-leb m (most_closing p) (omega (arith, e, ltb-false n (most_closing p) q)), and-false (d && all_blank ls)))
    by true q true on = ap (λ (k : ℕ). blanks_after p k ls) (add-one n) ∙ on (ltb-true n (most_closing p) q)
    by true q false on = no_blanks p ls

some_closing : (p : Profile) → 1 ≤ most_closing p
some_closing VV5404 = lit≤ tt
some_closing VV5300 = lit≤ tt

-- as many as may close a frame
abbrev is_closing : Profile → List Line → Bool
is_closing p ls = all_blank ls && leb (length ls) (most_closing p)

first_blanks_lem : (p : Profile) (l : Line) (ls : List Line) → blanks_after p (first_blanks l.kind) ls ≡ cond (is_closing p (l ∷ ls)) (length (l ∷ ls)) 0
unfolding first_blanks
first_blanks_lem p l ls = by (eqb l.kind (kind_number BL))
  where
    by : (d : Bool) → blanks_after p (cond d 1 0) ls ≡ cond ((d && all_blank ls) && leb (length (l ∷ ls)) (most_closing p)) (length (l ∷ ls)) 0
    by true = blanks_after_lem p 1 (length (l ∷ ls)) ls (omega arith) (some_closing p) (omega arith)
    by false = no_blanks p ls

-- after the EOF line, lines are due where each is a BL, whatever its number
due_after : (p : Profile) (b : Borders) (place : ℕ) (ls : List Line) → end_place p b < place → due_from p b place ls ≡ all_blank ls
due_after p b place [] h = refl
due_after p b place (l ∷ ls) h =
    simp (
      blank_after_lem p b place h,
      lt-ltb (end_place p b) place h,
      or-true (eqb l.number place),
      and-true (eqb l.kind (kind_number BL)),
      due_after p b (suc place) ls (omega arith),
    )

-- What is kept, in its parts.

kept : (p : Profile) (on off blanks : ℕ) (ls : List Line)
    → leading_after p (record { seen = true; on = on; off = off; blanks = blanks }) ls
    ≡ record { seen = true; on = next_place_after p On on ls; off = next_place_after p Off off ls; blanks = blanks_after p blanks ls }
unfolding with_line
kept p on off blanks [] = refl
kept p on off blanks (l ∷ ls) =
    kept p (next_place p On on l.kind l.number) (next_place p Off off l.kind l.number) (next_blanks p blanks l.kind) ls

-- the closing blank lines stand
abbrev blanks_stand : Profile → Line → List Line → Bool
blanks_stand p l ls = ltb 0 (blanks_after p (first_blanks l.kind) ls)

-- the place in a layout stands
abbrev layout_stands : Profile → Bool → Borders → Line → List Line → Bool
layout_stands p opened b l ls = place_stands p opened (next_place_after p b (first_place p b l.kind l.number) ls)

parts : (p : Profile) (opened : Bool) (l : Line) (ls : List Line)
    → is_run p opened (leading_after p no_lines (l ∷ ls)) ≡ (blanks_stand p l ls || (layout_stands p opened On l ls || layout_stands p opened Off l ls))
unfolding is_run with_line
parts p opened l ls =
    ap (is_run p opened) (kept p (first_place p On l.kind l.number) (first_place p Off l.kind l.number) (first_blanks l.kind) ls)

-- What stands is a run.

none_stands : (p : Profile) (opened : Bool) → place_stands p opened 0 ≡ false
unfolding place_stands
none_stands p true = le-ltb (last_place p) 0 (omega arith)
none_stands p false = refl

stands_last : (p : Profile) (opened : Bool) (place : ℕ) → place_stands p opened place ≡ true → opened ≡ true → last_place p < place
unfolding place_stands
stands_last p true place h e = ltb-true (last_place p) place h
stands_last p false place h e = absurd (true≢false (sym e))

-- a place stands: the first line is at the place of its number
place_run : (p : Profile) (opened : Bool) (b : Borders) (l : Line) (ls : List Line) → layout_stands p opened b l ls ≡ true → Run p opened (l ∷ ls)
place_run p opened b l ls h = by (due_from_number p b l ls) refl (ap (place_stands p opened) (sym (first_place_lem p b l ls)) ∙ h)
  where
    by : (y : Bool) → due_from_number p b l ls ≡ y → place_stands p opened (cond y (l.number + length (l ∷ ls)) 0) ≡ true → Run p opened (l ∷ ls)
    by true e s =
        let r = and_right (leb l.number (end_place p b)) _ e in
        let w = leb-true (l.number + length (l ∷ ls)) (last_place p + 1) (and_right (due_from p b l.number (l ∷ ls)) _ r) in
        record {
          borders = b;
          place = l.number;
          due = and_left _ _ r;
          within = w;
          to_last = λ (o : opened ≡ true). omega (arith, w, stands_last p opened (l.number + length (l ∷ ls)) s o);
        }
    by false e s = absurd (true≢false (sym s ∙ none_stands p opened))

-- blank lines stand: they are the last of a frame without borders
blanks_run : (p : Profile) (opened : Bool) (l : Line) (ls : List Line) → blanks_stand p l ls ≡ true → Run p opened (l ∷ ls)
blanks_run p opened l ls h = by (is_closing p (l ∷ ls)) refl (ap (ltb 0) (sym (first_blanks_lem p l ls)) ∙ h)
  where
    by : (y : Bool) → is_closing p (l ∷ ls) ≡ y → ltb 0 (cond y (length (l ∷ ls)) 0) ≡ true → Run p opened (l ∷ ls)
    by true e s =
        let w : length (l ∷ ls) ≤ most_closing p = leb-true (length (l ∷ ls)) (most_closing p) (and_right (all_blank (l ∷ ls)) _ e) in
        record {
          borders = Off;
          place = last_place p + 1 - length (l ∷ ls);
          due = due_after p Off (last_place p + 1 - length (l ∷ ls)) (l ∷ ls) (omega (arith, w, end_within p Off)) ∙ and_left _ _ e;
          within = omega (arith, w);
          to_last = λ (o : opened ≡ true). omega (arith, w);
        }
    by false e s = absurd (true≢false (sym s))

stands_run : (p : Profile) (opened : Bool) (l : Line) (ls : List Line) → is_run p opened (leading_after p no_lines (l ∷ ls)) ≡ true → Run p opened (l ∷ ls)
stands_run p opened l ls h =
    let e : (blanks_stand p l ls || (layout_stands p opened On l ls || layout_stands p opened Off l ls)) ≡ true = sym (parts p opened l ls) ∙ h in
    sides (blanks_stand p l ls) (blanks_run p opened l ls)
    (λ (x : blanks_stand p l ls ≡ false).
    sides (layout_stands p opened On l ls) (place_run p opened On l ls)
    (λ (y : layout_stands p opened On l ls ≡ false).
    place_run p opened Off l ls (or_other _ _ (or_other _ _ e x) y)))

-- A run stands.

end_least : (p : Profile) (b : Borders) → end_place p Off ≤ end_place p b
end_least VV5404 On = lit≤ tt
end_least VV5404 Off = lit≤ tt
end_least VV5300 On = lit≤ tt
end_least VV5300 Off = lit≤ tt

-- from a place after the EOF line on: by its blank lines
run_blanks : (p : Profile) (opened : Bool) (l : Line) (ls : List Line) (r : Run p opened (l ∷ ls)) → end_place p r.borders < r.place
    → blanks_stand p l ls ≡ true
run_blanks p opened l ls r h =
    let few : length (l ∷ ls) ≤ most_closing p = omega (arith, h, r.within, end_least p r.borders) in
    let blank : all_blank (l ∷ ls) ≡ true = sym (due_after p r.borders r.place (l ∷ ls) h) ∙ r.due in
    let c : is_closing p (l ∷ ls) ≡ true = and_both _ _ blank (le-leb (length (l ∷ ls)) (most_closing p) few) in
    ap (ltb 0) (first_blanks_lem p l ls ∙ ap (λ (y : Bool). cond y (length (l ∷ ls)) 0) c) ∙ lt-ltb 0 (length (l ∷ ls)) (omega arith)

-- up to the EOF line a place is its line's number
numbered : (p : Profile) (b : Borders) (place : ℕ) (l : Line) → place ≤ end_place p b → due_at p b place l.kind l.number ≡ true → place ≡ l.number
numbered p b place l h d =
    let n : number_due p b place l.number ≡ true = and_right (stands_at p b place l.kind) _ d in
    let e : number_due p b place l.number ≡ eqb l.number place = simp (le-ltb (end_place p b) place h) (or-false (eqb l.number place)) in
    sym (eqb-true l.number place (sym e ∙ n))

last_stands : (p : Profile) (opened : Bool) (place : ℕ) → 0 < place → (opened ≡ true → place ≡ last_place p + 1) → place_stands p opened place ≡ true
unfolding place_stands
last_stands p true place h g = lt-ltb (last_place p) place (let e = g refl in omega arith)
last_stands p false place h g = lt-ltb 0 place h

-- from any other place on: by the first line's number
run_place : (p : Profile) (opened : Bool) (l : Line) (ls : List Line) (r : Run p opened (l ∷ ls)) → r.place ≤ end_place p r.borders
    → layout_stands p opened r.borders l ls ≡ true
run_place p opened l ls r h =
    let b : Borders = r.borders in
    let m : ℕ = l.number + length (l ∷ ls) in
    let e : r.place ≡ l.number = numbered p b r.place l h (and_left _ _ r.due) in
    let due : due_from p b l.number (l ∷ ls) ≡ true = ap (λ (k : ℕ). due_from p b k (l ∷ ls)) (sym e) ∙ r.due in
    let first : leb l.number (end_place p b) ≡ true = le-leb l.number (end_place p b) (omega (arith, e, h)) in
    let within : leb m (last_place p + 1) ≡ true = le-leb m (last_place p + 1) (omega (arith, e, r.within)) in
    let c : due_from_number p b l ls ≡ true = and_both _ _ first (and_both _ _ due within) in
    ap (place_stands p opened) (first_place_lem p b l ls ∙ ap (λ (y : Bool). cond y m 0) c)
    ∙ last_stands p opened m (omega arith) (λ (o : opened ≡ true). omega (arith, e, r.to_last o))

either_layout : (p : Profile) (opened : Bool) (b : Borders) (l : Line) (ls : List Line) → layout_stands p opened b l ls ≡ true
    → (layout_stands p opened On l ls || layout_stands p opened Off l ls) ≡ true
either_layout p opened On l ls h = ap (λ (x : Bool). x || layout_stands p opened Off l ls) h
either_layout p opened Off l ls h = ap (λ (x : Bool). layout_stands p opened On l ls || x) h ∙ or-true (layout_stands p opened On l ls)

run_stands : (p : Profile) (opened : Bool) (l : Line) (ls : List Line) → Run p opened (l ∷ ls) → is_run p opened (leading_after p no_lines (l ∷ ls)) ≡ true
run_stands p opened l ls r =
    let b : Borders = r.borders in
    parts p opened l ls
    ∙ sides (ltb (end_place p b) r.place)
    (λ (x : ltb (end_place p b) r.place ≡ true).
    ap (λ (y : Bool). y || (layout_stands p opened On l ls || layout_stands p opened Off l ls))
    (run_blanks p opened l ls r (ltb-true (end_place p b) r.place x)))
    (λ (x : ltb (end_place p b) r.place ≡ false).
    ap (λ (y : Bool). blanks_stand p l ls || y)
    (either_layout p opened b l ls (run_place p opened l ls r (ltb-false (end_place p b) r.place x)))
    ∙ or-true (blanks_stand p l ls))

-- All together.

none_run : (p : Profile) (opened : Bool) → Run p opened []
none_run p opened =
    record { borders = On; place = last_place p + 1; due = refl; within = omega arith; to_last = λ (o : opened ≡ true). omega arith }

laid_due : (p : Profile) (b : Borders) (place : ℕ) (ls : List Line) → laid_from p b place ls ≡ true → due_from p b place ls ≡ true
laid_due p b place [] h = refl
laid_due p b place (l ∷ ls) h =
    let due : due_at p b place l.kind l.number ≡ true = and_left _ _ (and_left (is_laid_out_at p b place l) _ h) in
    and_both _ _ due (laid_due p b (suc place) ls (and_right (is_laid_out_at p b place l) _ h))

-- what is kept of lines stands exactly where they are a run
pub run_exactly : (p : Profile) (opened : Bool) (ls : List Line) → (is_run p opened (leading_after p no_lines ls) ≡ true) ↔ Run p opened ls
unfolding is_run
run_exactly p opened [] = (λ h. none_run p opened, λ r. refl)
run_exactly p opened (l ∷ ls) = (stands_run p opened l ls, run_stands p opened l ls)

-- lines as laid out from a place on stand, within a frame; where a frame opened after them, up to its last line
pub laid_run : (p : Profile) (opened : Bool) (b : Borders) (place : ℕ) (ls : List Line) → laid_from p b place ls ≡ true
    → place + length ls ≤ last_place p + 1 → (opened ≡ true → place + length ls ≡ last_place p + 1) → is_run p opened (leading_after p no_lines ls) ≡ true
laid_run p opened b place ls h w t =
    (run_exactly p opened ls).1 (record { borders = b; place = place; due = laid_due p b place ls h; within = w; to_last = t })
