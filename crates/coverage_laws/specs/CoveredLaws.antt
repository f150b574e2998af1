-- Lines of different kind or number have different cells in the table of what came: a line fills its own cell and no other.
use Rattle.std.specs.Prelude.{◌≡◌, refl, Bool, true, false, ◌&&◌, ◌||◌, cond, List, ℕ, ◌<◌, eqb, ltb, length, set}
use Rattle.std.proofs.Common.{◌∙◌, ap, arith, get_or-set_same, get_or-set_other, lt-ltb, eqb-true}
use Rattle.std.proofs.lemmas.Bool.{eqb-false}
use Rattle.coverage.specs.Coverage.{cell_of, with_line, has_come}

-- a line fills its own cell and no other
pub with_there : (came : List ℕ) (k n i m : ℕ) → k < 6 → i < 6 → cell_of i m < length came
    → has_come (with_line came k n) i m ≡ ((eqb k i && eqb n m) || has_come came i m)
unfolding with_line
with_there came k n i m small below h = either (eqb k i) refl (eqb n m) refl
  where
    noted : ℕ → ℕ → List ℕ
    noted k n = cond (ltb (cell_of k n) (length came)) (set came (cell_of k n) 1) came

    elsewhere : (cell_of i m ≡ cell_of k n → ⊥) → has_come (noted k n) i m ≡ has_come came i m
    elsewhere g = go (ltb (cell_of k n) (length came))
      where
        go : (b : Bool) → has_come (cond b (set came (cell_of k n) 1) came) i m ≡ has_come came i m
        go true = ap (λ (c : ℕ). eqb c 1) (get_or-set_other came (cell_of k n) (cell_of i m) 1 0 g)
        go false = refl

    there : has_come (noted i m) i m ≡ true
    there =
        ap (λ (b : Bool). has_come (cond b (set came (cell_of i m) 1) came) i m) (lt-ltb (cell_of i m) (length came) h)
        ∙ ap (λ (c : ℕ). eqb c 1) (get_or-set_same came (cell_of i m) 1 0 h)

    either : (b : Bool) → eqb k i ≡ b → (c : Bool) → eqb n m ≡ c → has_come (noted k n) i m ≡ ((b && c) || has_come came i m)
    either true e true q = ap (λ (x : ℕ). has_come (noted x n) i m) (eqb-true k i e) ∙ ap (λ (x : ℕ). has_come (noted i x) i m) (eqb-true n m q) ∙ there
    either true e false q = elsewhere (λ s. eqb-false n m q (omega (arith, eqb-true k i e, s)))
    either false e c q = elsewhere (λ s. eqb-false k i e (omega (arith, s)))
