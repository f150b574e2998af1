-- What the answer of a denial tells: its number, or that nothing is refused.
use Rattle.std.specs.Prelude.{◌≡◌, refl, ℕ, zero, suc, None, Some}
use Rattle.refusal.specs.declared.Refusal.{Refusal}
use Rattle.technician.specs.Technician.{denial_for}

pub denied : (n : ℕ) {r : Refusal} → Some r ≡ denial_for n → (r.0 ≡ n) × (n ≡ 0 → ⊥)
denied zero h = absurd (cc)
denied (suc n) h = (cc, λ e. cc)

pub granted : (n : ℕ) → None ≡ denial_for n → n ≡ 0
granted zero h = refl
granted (suc n) h = absurd (cc)
