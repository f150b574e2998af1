-- The first list with the differences applied is the second; and equal lists differ in nothing.
use Rattle.std.specs.Prelude.{◌≡◌, refl, Bool, true, false, List, [], ◌∷◌, ◌++◌, ℕ, suc, ◌≤◌, ◌<◌, eqb, leb, length}
use Rattle.std.proofs.Common.{sym, ap, subst, ◌∙◌, arith, leb-true, eqb-true, lt-ltb, le-ltb, le-leb, eq-eqb, ne_eqb, length-append}
use Rattle.std.proofs.lemmas.List.{set_at}
use Rattle.std.proofs.Math.Seq.{append_snoc}
use Rattle.bits.specs.Every.{and_left, and_right, and_both}
use Rattle.line_records.specs.Lines.{FullLine, rises_from, rises}
use Rattle.line_records_laws.specs.LinesBackLaws.{FullBodies, sized_head, sized_tail}
use Rattle.diff_records.specs.Difference.{Difference, only_first, only_second, both_kinds, both_bytes, unless, places_from, between_lines, differences}
use Rattle.diff_lines_laws.specs.Applied.{of_kind, with_byte, applied, applied_all, of_number, rank, Each, done, also}
use Rattle.diff_lines_laws.specs.EachLaws.{each_append, each_map, each_unless}
use Rattle.diff_records.proofs.DifferenceLaws.{step_first, step_second, step_both}
use Rattle.diff_lines_laws.specs.MergeLaws.{MergeSteps, walked}

-- Numbers that rise

pub rises_head : (m : ℕ) (l : FullLine) (ls : List FullLine) → rises_from m (l ∷ ls) ≡ true → m ≤ l.number
rises_head m l ls h = leb-true m l.number (and_left _ (rises_from (suc l.number) ls) h)

pub rises_tail : (m : ℕ) (l : FullLine) (ls : List FullLine) → rises_from m (l ∷ ls) ≡ true → rises_from (suc l.number) ls ≡ true
rises_tail m l ls h = and_right (leb m l.number) _ h

pub rises_cons : (m : ℕ) (l : FullLine) (ls : List FullLine) → m ≤ l.number → rises_from (suc l.number) ls ≡ true → rises_from m (l ∷ ls) ≡ true
rises_cons m l ls h r = and_both _ _ (le-leb m l.number h) r

pub rises_lower : (m n : ℕ) (ls : List FullLine) → n ≤ m → rises_from m ls ≡ true → rises_from n ls ≡ true
rises_lower m n [] h r = refl
rises_lower m n (l ∷ ls) h r = rises_cons n l ls (omega (arith, rises_head m l ls r)) (rises_tail m l ls r)

-- Differences of numbers from m on

-- of numbers from m on
abbrev pub From : ℕ → List Difference → Type 0
From m = Each (λ d. m ≤ of_number d)

-- all of number n, and of ranks from p on
abbrev pub Of : ℕ → ℕ → List Difference → Type 0
Of n p = Each (λ d. (of_number d ≡ n) × (p ≤ rank d))

pub of_places : (n p : ℕ) (xs ys : List ℕ) → Of n (suc p) (places_from n p xs ys)
of_places n p [] ys = done
of_places n p (x ∷ xs) [] = done
of_places n p (x ∷ xs) (y ∷ ys) = each_unless (eqb x y) (both_bytes n p x y) (refl, omega arith) (each_map (λ d h. (h.0, omega arith)) (of_places n (suc p) xs ys))

pub of_between : (a b : FullLine) → Of a.number 0 (between_lines a b)
unfolding between_lines
of_between a b = each_unless (eqb a.kind b.kind) (both_kinds a.number a.kind b.kind) (refl, omega arith) (each_map (λ d h. (h.0, omega arith)) (of_places a.number 0 a.body b.body))

of_from : (m n : ℕ) {ds : List Difference} → m ≤ n → Of n 0 ds → From m ds
of_from m n h = each_map (λ d g. omega arith)

abbrev FromP : List FullLine → List FullLine → Type 0
FromP ls ms = (m : ℕ) → rises_from m ls ≡ true → rises_from m ms ≡ true → From m (differences ls ms)

from_steps : MergeSteps FromP
from_steps =
    record {
      none = λ m g h. done;
      first_left = λ a ls r m g h. also (rises_head m a ls g) (r m (rises_lower (suc a.number) m ls (omega (arith, rises_head m a ls g)) (rises_tail m a ls g)) h);
      second_left = λ b ms r m g h. also (rises_head m b ms h) (r m g (rises_lower (suc b.number) m ms (omega (arith, rises_head m b ms h)) (rises_tail m b ms h)));
      first = λ a b ls ms e r m g h. subst (From m) (sym (step_first a b ls ms e))
          (also (rises_head m a ls g) (r m (rises_lower (suc a.number) m ls (omega (arith, rises_head m a ls g)) (rises_tail m a ls g)) h));
      second = λ a b ls ms e r m g h. subst (From m) (sym (step_second a b ls ms e))
          (also (rises_head m b ms h) (r m g (rises_lower (suc b.number) m ms (omega (arith, rises_head m b ms h)) (rises_tail m b ms h))));
      both = λ a b ls ms e r m g h. subst (From m) (sym (step_both a b ls ms e))
          (each_append (of_from m a.number (rises_head m a ls g) (of_between a b))
          (r m (rises_lower (suc a.number) m ls (omega (arith, rises_head m a ls g)) (rises_tail m a ls g)) (rises_lower (suc b.number) m ms (omega (arith, rises_head m b ms h)) (rises_tail m b ms h))));
    }

-- lists from a number on differ from that number on
pub differences_from_lem : (ls ms : List FullLine) (m : ℕ) → rises_from m ls ≡ true → rises_from m ms ≡ true → From m (differences ls ms)
differences_from_lem = walked FromP from_steps

-- Applying

pub applied_append : (ds es : List Difference) (ls : List FullLine) → applied_all (ds ++ es) ls ≡ applied_all es (applied_all ds ls)
applied_append [] es ls = refl
applied_append (d ∷ ds) es ls = applied_append ds es (applied d ls)

-- a difference of a later number leaves a line where it is
applied_below : (d : Difference) (l : FullLine) (ls : List FullLine) → l.number < of_number d → applied d (l ∷ ls) ≡ l ∷ applied d ls
unfolding applied
applied_below (only_first x) l ls h = simp (ne_eqb l.number x.number (λ e. omega arith))
applied_below (only_second x) l ls h =
    let g : l.number ≤ x.number = omega arith in
    simp (le-ltb x.number l.number g)
applied_below (both_kinds n k m) l ls h = simp (ne_eqb l.number n (λ e. omega arith))
applied_below (both_bytes n p x y) l ls h = simp (ne_eqb l.number n (λ e. omega arith))

all_pass : (l : FullLine) {ds : List Difference} (ls : List FullLine) → From (suc l.number) ds → applied_all ds (l ∷ ls) ≡ l ∷ applied_all ds ls
all_pass l ls done = refl
all_pass l ls (also {d} {ds} h f) = ap (applied_all ds) (applied_below d l ls h) ∙ all_pass l (applied d ls) f

-- the line of a number with its kind, and with bodies' differing places
set_place : (n : ℕ) (p y : ℕ) (l : FullLine) (ls : List FullLine) (x : ℕ) → l.number ≡ n → applied (both_bytes n p x y) (l ∷ ls) ≡ with_byte p y l ∷ ls
unfolding applied
set_place n p y l ls x e = simp (eq-eqb l.number n e)

set_kind : (n k m : ℕ) (l : FullLine) (ls : List FullLine) → l.number ≡ n → applied (both_kinds n k m) (l ∷ ls) ≡ of_kind m l ∷ ls
unfolding applied
set_kind n k m l ls e = simp (eq-eqb l.number n e)

abbrev line_with : ℕ → ℕ → List ℕ → FullLine
line_with k n body = record { kind = k; number = n; body = body }

places_applied : (k n p : ℕ) (before xs ys : List ℕ) (ls : List FullLine) → length before ≡ p → length xs ≡ length ys
    → applied_all (places_from n p xs ys) (line_with k n (before ++ xs) ∷ ls) ≡ line_with k n (before ++ ys) ∷ ls
places_applied k n p before [] [] ls h e = refl
places_applied k n p before [] (y ∷ ys) ls h e = absurd (let z : 0 ≡ suc (length ys) = e in omega arith)
places_applied k n p before (x ∷ xs) [] ls h e = absurd (let z : suc (length xs) ≡ 0 = e in omega arith)
places_applied k n p before (x ∷ xs) (y ∷ ys) ls h e =
    by (eqb x y) refl (places_applied k n (suc p) (before ++ (y ∷ [])) xs ys ls (length-append before (y ∷ []) ∙ omega arith) (omega arith))
  where
    by : (t : Bool) → eqb x y ≡ t
        → applied_all (places_from n (suc p) xs ys) (line_with k n (before ++ (y ∷ []) ++ xs) ∷ ls) ≡ line_with k n (before ++ (y ∷ []) ++ ys) ∷ ls
        → applied_all (unless t (both_bytes n p x y) (places_from n (suc p) xs ys)) (line_with k n (before ++ x ∷ xs) ∷ ls) ≡ line_with k n (before ++ y ∷ ys) ∷ ls
    by true f r =
        ap (λ (z : ℕ). applied_all (places_from n (suc p) xs ys) (line_with k n (before ++ z ∷ xs) ∷ ls)) (eqb-true x y f)
        ∙ ap (λ (l : List ℕ). applied_all (places_from n (suc p) xs ys) (line_with k n l ∷ ls)) (sym (append_snoc before y xs))
        ∙ r ∙ ap (λ (l : List ℕ). line_with k n l ∷ ls) (append_snoc before y ys)
    by false f r =
        ap (applied_all (places_from n (suc p) xs ys)) (set_place n p y (line_with k n (before ++ x ∷ xs)) ls x refl
        ∙ ap (λ (l : List ℕ). line_with k n l ∷ ls) (set_at before x xs y p h ∙ sym (append_snoc before y xs)))
        ∙ r ∙ ap (λ (l : List ℕ). line_with k n l ∷ ls) (append_snoc before y ys)

-- the differences between two lines of one number, applied to the first
between_applied : (a b : FullLine) (ls : List FullLine) → a.number ≡ b.number → length a.body ≡ length b.body
    → applied_all (between_lines a b) (a ∷ ls) ≡ b ∷ ls
unfolding between_lines
between_applied a b ls e h =
    by (eqb a.kind b.kind) refl ∙ ap (λ (n : ℕ). line_with b.kind n b.body ∷ ls) e
  where
    by : (t : Bool) → eqb a.kind b.kind ≡ t
        → applied_all (unless t (both_kinds a.number a.kind b.kind) (places_from a.number 0 a.body b.body)) (a ∷ ls)
        ≡ line_with b.kind a.number b.body ∷ ls
    by true f =
        places_applied a.kind a.number 0 [] a.body b.body ls refl h
        ∙ ap (λ (k : ℕ). line_with k a.number b.body ∷ ls) (eqb-true _ _ f)
    by false f =
        ap (applied_all (places_from a.number 0 a.body b.body)) (set_kind a.number a.kind b.kind a ls refl)
        ∙ places_applied b.kind a.number 0 [] a.body b.body ls refl h

-- The second list from the first

removed_here : (a : FullLine) (ls : List FullLine) → applied (only_first a) (a ∷ ls) ≡ ls
unfolding applied
removed_here a ls = simp (eq-eqb a.number a.number refl)

put_before : (b a : FullLine) (ls : List FullLine) → b.number < a.number → applied (only_second b) (a ∷ ls) ≡ b ∷ a ∷ ls
unfolding applied
put_before b a ls h = simp (lt-ltb b.number a.number h)

put_last : (b : FullLine) → applied (only_second b) [] ≡ b ∷ []
unfolding applied
put_last b = refl

abbrev AppliedP : List FullLine → List FullLine → Type 0
AppliedP ls ms = (m : ℕ) → rises_from m ls ≡ true → rises_from m ms ≡ true → FullBodies ls → FullBodies ms → applied_all (differences ls ms) ls ≡ ms

gives_steps : MergeSteps AppliedP
gives_steps =
    record {
      none = λ m g h s t. refl;
      first_left = λ a ls r m g h s t. ap (applied_all (differences ls [])) (removed_here a ls) ∙ r _ (rises_tail m a ls g) refl (sized_tail s) t;
      second_left = λ b ms r m g h s t.
          ap (applied_all (differences [] ms)) (put_last b)
          ∙ all_pass b [] (differences_from_lem [] ms (suc b.number) refl (rises_tail m b ms h))
          ∙ ap (λ (l : List FullLine). b ∷ l) (r _ refl (rises_tail m b ms h) s (sized_tail t));
      first = λ a b ls ms e r m g h s t.
          ap (λ (ds : List Difference). applied_all ds (a ∷ ls)) (step_first a b ls ms e)
          ∙ ap (applied_all (differences ls (b ∷ ms))) (removed_here a ls)
          ∙ r (suc a.number) (rises_tail m a ls g) (rises_cons (suc a.number) b ms e (rises_tail m b ms h)) (sized_tail s) t;
      second = λ a b ls ms e r m g h s t.
          ap (λ (ds : List Difference). applied_all ds (a ∷ ls)) (step_second a b ls ms e)
          ∙ ap (applied_all (differences (a ∷ ls) ms)) (put_before b a ls e)
          ∙ all_pass b (a ∷ ls) (differences_from_lem (a ∷ ls) ms (suc b.number) (rises_cons (suc b.number) a ls e (rises_tail m a ls g)) (rises_tail m b ms h))
          ∙ ap (λ (l : List FullLine). b ∷ l) (r (suc b.number) (rises_cons (suc b.number) a ls e (rises_tail m a ls g)) (rises_tail m b ms h) s (sized_tail t));
      both = λ a b ls ms e r m g h s t.
          let u : rises_from (suc b.number) ls ≡ true = subst (λ (n : ℕ). rises_from (suc n) ls ≡ true) e (rises_tail m a ls g) in
          ap (λ (ds : List Difference). applied_all ds (a ∷ ls)) (step_both a b ls ms e)
          ∙ applied_append (between_lines a b) (differences ls ms) (a ∷ ls)
          ∙ ap (applied_all (differences ls ms)) (between_applied a b ls e (sized_head s ∙ sym (sized_head t)))
          ∙ all_pass b ls (differences_from_lem ls ms (suc b.number) u (rises_tail m b ms h))
          ∙ ap (λ (l : List FullLine). b ∷ l) (r (suc b.number) u (rises_tail m b ms h) (sized_tail s) (sized_tail t));
    }

-- the first list with the differences applied is the second
pub applied_is_second : (ls ms : List FullLine) → rises ls ≡ true → rises ms ≡ true → FullBodies ls → FullBodies ms → applied_all (differences ls ms) ls ≡ ms
applied_is_second ls ms = walked AppliedP gives_steps ls ms 0

-- Equal lists

none_between : (n p : ℕ) (xs : List ℕ) → places_from n p xs xs ≡ []
none_between n p [] = refl
none_between n p (x ∷ xs) = simp (eq-eqb x x refl) (none_between n (suc p) xs)

same_line : (a : FullLine) → between_lines a a ≡ []
unfolding between_lines
same_line a = simp (eq-eqb a.kind a.kind refl) (none_between a.number 0 a.body)

-- equal lists differ in nothing
pub equal_none : (ls : List FullLine) → differences ls ls ≡ []
equal_none [] = refl
equal_none (l ∷ ls) = step_both l l ls ls refl ∙ ap (λ (ds : List Difference). ds ++ differences ls ls) (same_line l) ∙ equal_none ls
