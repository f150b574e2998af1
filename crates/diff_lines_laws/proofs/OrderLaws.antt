-- The differences stand in rising number, kinds before places, then by place.
use Rattle.std.specs.Prelude.{◌≡◌, refl, Bool, true, false, List, [], ◌∷◌, ◌++◌, ℕ, suc, eqb}
use Rattle.std.proofs.Common.{sym, subst, inl, inr, arith}
use Rattle.line_records.specs.Lines.{FullLine, rises_from, rises}
use Rattle.diff_records.specs.Difference.{Difference, both_kinds, both_bytes, unless, places_from, between_lines, differences}
use Rattle.diff_lines_laws.specs.Applied.{Precedes, Each, done, also, InOrder, empty, then}
use Rattle.diff_lines_laws.specs.EachLaws.{each_append, each_map}
use Rattle.diff_records.proofs.DifferenceLaws.{step_first, step_second, step_both}
use Rattle.diff_lines_laws.specs.MergeLaws.{MergeSteps, walked}
use Rattle.diff_lines_laws.proofs.ApplyLaws.{rises_tail, rises_cons, From, Of, of_places, of_between, differences_from_lem}

order_unless : (t : Bool) (d : Difference) {ds : List Difference} → Each (Precedes d) ds → InOrder ds → InOrder (unless t d ds)
order_unless true d h o = o
order_unless false d h o = then h o

order_places : (n p : ℕ) (xs ys : List ℕ) → InOrder (places_from n p xs ys)
order_places n p [] ys = empty
order_places n p (x ∷ xs) [] = empty
order_places n p (x ∷ xs) (y ∷ ys) =
    order_unless (eqb x y) (both_bytes n p x y) (each_map (λ d h. inr (sym h.0, h.1)) (of_places n (suc p) xs ys)) (order_places n (suc p) xs ys)

order_between : (a b : FullLine) → InOrder (between_lines a b)
unfolding between_lines
order_between a b =
    order_unless (eqb a.kind b.kind) (both_kinds a.number a.kind b.kind) (each_map (λ d h. inr (sym h.0, h.1)) (of_places a.number 0 a.body b.body))
    (order_places a.number 0 a.body b.body)

-- differences of one number, then others of later ones
order_append : (n : ℕ) {ds es : List Difference} → Of n 0 ds → InOrder ds → From (suc n) es → InOrder es → InOrder (ds ++ es)
order_append n done empty f o = o
order_append n (also {d} h g) (then b i) f o =
    then (each_append b (each_map (λ e k. inl (omega arith)) f)) (order_append n g i f o)

abbrev OrderP : List FullLine → List FullLine → Type 0
OrderP ls ms = (m : ℕ) → rises_from m ls ≡ true → rises_from m ms ≡ true → InOrder (differences ls ms)

order_steps : MergeSteps OrderP
order_steps =
    record {
      none = λ m g h. empty;
      first_left = λ a ls r m g h. then (each_map (λ d k. inl k) (differences_from_lem ls [] (suc a.number) (rises_tail m a ls g) refl)) (r _ (rises_tail m a ls g) refl);
      second_left = λ b ms r m g h. then (each_map (λ d k. inl k) (differences_from_lem [] ms (suc b.number) refl (rises_tail m b ms h))) (r _ refl (rises_tail m b ms h));
      first = λ a b ls ms e r m g h.
          let u = rises_cons (suc a.number) b ms e (rises_tail m b ms h) in
          subst InOrder (sym (step_first a b ls ms e))
          (then (each_map (λ d k. inl k) (differences_from_lem ls (b ∷ ms) (suc a.number) (rises_tail m a ls g) u)) (r (suc a.number) (rises_tail m a ls g) u));
      second = λ a b ls ms e r m g h.
          let u = rises_cons (suc b.number) a ls e (rises_tail m a ls g) in
          subst InOrder (sym (step_second a b ls ms e))
          (then (each_map (λ d k. inl k) (differences_from_lem (a ∷ ls) ms (suc b.number) u (rises_tail m b ms h))) (r (suc b.number) u (rises_tail m b ms h)));
      both = λ a b ls ms e r m g h.
          let u : rises_from (suc a.number) ms ≡ true = subst (λ (n : ℕ). rises_from (suc n) ms ≡ true) (sym e) (rises_tail m b ms h) in
          subst InOrder (sym (step_both a b ls ms e))
          (order_append a.number (of_between a b) (order_between a b) (differences_from_lem ls ms (suc a.number) (rises_tail m a ls g) u) (r (suc a.number) (rises_tail m a ls g) u));
    }

-- rising number, kinds before places, then place
pub in_order_lem : (ls ms : List FullLine) → rises ls ≡ true → rises ms ≡ true → InOrder (differences ls ms)
in_order_lem ls ms = walked OrderP order_steps ls ms 0
