-- Laws of counts: a list in two parts; a count above 0 exactly where one of the list is so; counts side by side.
use Rattle.std.specs.Prelude.{◌≡◌, refl, Bool, true, false, ◌&&◌, ◌||◌, cond, List, [], ◌∷◌, ◌++◌, ℕ, ◌+◌, ◌<◌, eqb, ltb, length, get_or, set, drop}
use Rattle.std.proofs.Common.{◌∙◌, ap, sym, true≢false, add-one, arith, length-set, get_or-set_same, get_or-set_other, drop-cons, lt-ltb, ltb-false, eqb-true}
use Rattle.std.proofs.Math.Bool.{or-true, or-false}
use Rattle.std.proofs.lemmas.Bool.{eqb-false}
use Rattle.counts.specs.Counts.{greatest_count, one_more, counting, one_more_at, all_zero}

-- a list in two parts is counted one part after the other
pub counting_append : {A : Type 0} (which : A → Bool) (n : ℕ) (v w : List A) → counting which n (v ++ w) ≡ counting which (counting which n v) w
counting_append which n [] w = refl
counting_append which n (x ∷ v) w = counting_append which (cond (which x) (one_more n) n) v w

-- one more is above 0
pub counted : (n : ℕ) → ltb 0 (one_more n) ≡ true
unfolding one_more
counted n = either (ltb n greatest_count) refl
  where
    either : (b : Bool) → ltb n greatest_count ≡ b → ltb 0 (cond b (n + 1) n) ≡ true
    either true e = lt-ltb 0 (n + 1) (omega arith)
    either false e = lt-ltb 0 n (omega (arith, ltb-false n greatest_count e))

-- one of a list is so
abbrev pub some : {A : Type 0} → (A → Bool) → List A → Bool
some which [] = false
some which (x ∷ w) = which x || some which w

-- a count is above 0 exactly if it was before, or one of the list is so
pub counting_some : {A : Type 0} (which : A → Bool) (n : ℕ) (w : List A) → ltb 0 (counting which n w) ≡ (ltb 0 n || some which w)
counting_some which n [] = sym (or-false (ltb 0 n))
counting_some which n (x ∷ w) = counting_some which (cond (which x) (one_more n) n) w ∙ either (which x)
  where
    either : (b : Bool) → (ltb 0 (cond b (one_more n) n) || some which w) ≡ (ltb 0 n || (b || some which w))
    either true = ap (λ (c : Bool). c || some which w) (counted n) ∙ sym (or-true (ltb 0 n))
    either false = refl

-- Counts side by side.

pub one_more_length : (counts : List ℕ) (i : ℕ) → length (one_more_at counts i) ≡ length counts
unfolding one_more_at
one_more_length counts i = either (ltb i (length counts))
  where
    either : (b : Bool) → length (cond b (set counts i (one_more (get_or counts i 0))) counts) ≡ length counts
    either true = length-set counts i (one_more (get_or counts i 0))
    either false = refl

-- the count at a place is one more exactly where that is the place
pub one_more_there : (counts : List ℕ) (i j : ℕ) → j < length counts
    → get_or (one_more_at counts i) j 0 ≡ cond (eqb i j) (one_more (get_or counts j 0)) (get_or counts j 0)
unfolding one_more_at
one_more_there counts i j h = either (eqb i j) refl
  where
    there : (b : Bool) → ltb j (length counts) ≡ b → get_or (cond b (set counts j (one_more (get_or counts j 0))) counts) j 0 ≡ one_more (get_or counts j 0)
    there true e = get_or-set_same counts j (one_more (get_or counts j 0)) 0 h
    there false e = absurd (true≢false (sym (lt-ltb j (length counts) h) ∙ e))

    elsewhere : (j ≡ i → ⊥) → (b : Bool) → get_or (cond b (set counts i (one_more (get_or counts i 0))) counts) j 0 ≡ get_or counts j 0
    elsewhere g true = get_or-set_other counts i j (one_more (get_or counts i 0)) 0 g
    elsewhere g false = refl

    either : (b : Bool) → eqb i j ≡ b
        → get_or (cond (ltb i (length counts)) (set counts i (one_more (get_or counts i 0))) counts) j 0 ≡ cond b (one_more (get_or counts j 0)) (get_or counts j 0)
    either true e =
        ap (λ (k : ℕ). get_or (cond (ltb k (length counts)) (set counts k (one_more (get_or counts k 0))) counts) j 0) (eqb-true i j e) ∙ there (ltb j (length counts)) refl
    either false e = elsewhere (λ (q : j ≡ i). eqb-false i j e (sym q)) (ltb i (length counts))

-- from one place on, by the count there
pub zero_step : (counts : List ℕ) (i : ℕ) → i < length counts → all_zero (drop i counts) ≡ (eqb (get_or counts i 0) 0 && all_zero (drop (i + 1) counts))
zero_step counts i h = ap all_zero (drop-cons counts i 0 h) ∙ ap (λ (k : ℕ). eqb (get_or counts i 0) 0 && all_zero (drop k counts)) (sym (add-one i))
