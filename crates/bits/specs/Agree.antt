-- Two functions agree below a bound if the lists of their values, which the checker computes and compares whole, are equal.
use Rattle.std.specs.Prelude.{◌≡◌, ℕ, zero, suc, ◌≤◌, ◌<◌}
use Rattle.std.proofs.Common.{sym, ◌∙◌, zero-le, suc-le-suc, not-suc-le-zero, le_of_suc-le-suc}
use mathlib.Core.List.{List, [], ◌∷◌, head-eq_of_cons-eq, tail-eq_of_cons-eq}

-- the values at the first n numbers
abbrev pub listed : {A : Type 0} → (ℕ → A) → ℕ → List A
listed f zero = []
listed f (suc n) = f 0 ∷ listed (λ i. f (suc i)) n

pub agree : {A : Type 0} (f g : ℕ → A) (n : ℕ) → listed f n ≡ listed g n → (i : ℕ) → i < n → f i ≡ g i
agree f g zero e i h = absurd (not-suc-le-zero h)
agree f g (suc n) e zero h = head-eq_of_cons-eq e
agree f g (suc n) e (suc i) h = agree (λ j. f (suc j)) (λ j. g (suc j)) n (tail-eq_of_cons-eq e) i (le_of_suc-le-suc h)

-- and everywhere if both have the same value from the bound on
pub agree_all : {A : Type 0} (f g : ℕ → A) (z : A) (n : ℕ) → listed f n ≡ listed g n
    → ((i : ℕ) → n ≤ i → f i ≡ z) → ((i : ℕ) → n ≤ i → g i ≡ z) → (i : ℕ) → f i ≡ g i
agree_all f g z zero e p q i = p i zero-le ∙ sym (q i zero-le)
agree_all f g z (suc n) e p q zero = head-eq_of_cons-eq e
agree_all f g z (suc n) e p q (suc i) =
    agree_all (λ j. f (suc j)) (λ j. g (suc j)) z n (tail-eq_of_cons-eq e) (λ j h. p (suc j) (suc-le-suc h)) (λ j h. q (suc j) (suc-le-suc h)) i
