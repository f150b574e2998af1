-- What is collected of outcomes, in order: laws for lines and for good gaps at once.
use Rattle.std.specs.Prelude.{◌≡◌, refl, Bool, true, false, cond, List, [], ◌∷◌, ◌++◌, map, ℕ, zero, suc, ◌+◌, ◌-◌, leb, length, take}
use Rattle.std.proofs.Common.{◌∙◌, ap, sym, append_assoc, arith, leb-true, leb-false}
use Rattle.stream.specs.Answers.{Outcome, nothing}
use Rattle.recovery.specs.Collected.{nothings, collected}

nothing_first : {A : Type 0} (k l : List A) → k ++ l ≡ [] → k ≡ []
nothing_first [] l h = refl
nothing_first (x ∷ k) l h = cc

module _ {A : Type 0} (brings : Outcome → List A) where
  pub collected_append : (k l : List Outcome) → collected brings (k ++ l) ≡ collected brings k ++ collected brings l
  collected_append [] l = refl
  collected_append (o ∷ k) l = ap (λ xs. brings o ++ xs) (collected_append k l) ∙ sym (append_assoc (brings o) (collected brings k) (collected brings l))

  -- of a front, past outcomes that bring none
  pub take_past : (A C : List Outcome) (n : ℕ) → collected brings A ≡ [] → collected brings (take n (A ++ C)) ≡ collected brings (take (n - length A) C)
  take_past [] C n h = let e : n ≡ n - 0 = omega arith in ap (λ (m : ℕ). collected brings (take m C)) e
  take_past (o ∷ A) C zero h = let e : 0 ≡ 0 - suc (length A) = omega arith in ap (λ (m : ℕ). collected brings (take m C)) e
  take_past (o ∷ A) C (suc n) h =
      let none = nothing_first (brings o) (collected brings A) h in
      let e : n - length A ≡ suc n - suc (length A) = omega arith in
      ap (λ xs. xs ++ collected brings (take n (A ++ C))) none
      ∙ take_past A C n (sym (ap (λ xs. xs ++ collected brings A) none) ∙ h)
      ∙ ap (λ (m : ℕ). collected brings (take m C)) e

  -- of a front, where x brings one, a, between outcomes that bring none, and C comes after them
  pub front_collected : (A T C : List Outcome) (x : Outcome) {a : _} → collected brings A ≡ [] → collected brings T ≡ [] → brings x ≡ a ∷ []
      → (i o : ℕ) {rest : _} → collected brings (take (i - (o + (suc (length A) + length T))) C) ≡ rest → (b : Bool) → leb (o + suc (length A)) i ≡ b
      → collected brings (take (i - o) (A ++ (x ∷ (T ++ C)))) ≡ cond b (a ∷ rest) rest
  front_collected A T C x {a} hA hT one i o {rest} ih true e =
      let k : ℕ = i - (o + suc (length A)) in
      let m = leb-true (o + suc (length A)) i e in
      let e₁ : (i - o) - length A ≡ suc k = omega arith in
      let e₂ : k - length T ≡ i - (o + (suc (length A) + length T)) = omega arith in
      take_past A (x ∷ (T ++ C)) (i - o) hA
      ∙ ap (λ (n : ℕ). collected brings (take n (x ∷ (T ++ C)))) e₁
      ∙ ap (λ xs. xs ++ collected brings (take k (T ++ C))) one
      ∙ ap (λ xs. a ∷ xs) (take_past T C k hT ∙ ap (λ (n : ℕ). collected brings (take n C)) e₂ ∙ ih)
  front_collected A T C x {a} hA hT one i o {rest} ih false e =
      let m = leb-false (o + suc (length A)) i e in
      let e₁ : (i - o) - length A ≡ 0 = omega arith in
      let e₂ : 0 ≡ i - (o + (suc (length A) + length T)) = omega arith in
      take_past A (x ∷ (T ++ C)) (i - o) hA
      ∙ ap (λ (n : ℕ). collected brings (take n (x ∷ (T ++ C)))) e₁
      ∙ ap (λ (n : ℕ). collected brings (take n C)) e₂
      ∙ ih

  -- where nothing brings none
  pub collected_nothings : brings nothing ≡ [] → (w : List ℕ) → collected brings (nothings w) ≡ []
  collected_nothings h [] = refl
  collected_nothings h (n ∷ w) = ap (λ xs. xs ++ collected brings (nothings w)) h ∙ collected_nothings h w

-- a test passes through map
pub map_test : {A B : Type 0} (f : A → B) (b : Bool) (x : A) (xs : List A) → cond b (f x ∷ map f xs) (map f xs) ≡ map f (cond b (x ∷ xs) xs)
map_test f true x xs = refl
map_test f false x xs = refl
