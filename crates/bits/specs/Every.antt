-- A law of every number below a bound, from one test that the checker computes at each of them.
use Rattle.std.specs.Prelude.{◌≡◌, refl, Bool, true, false, ◌&&◌, cond, ℕ, zero, suc, ◌+◌, ◌<◌}
use Rattle.std.proofs.Common.{sym, subst, true≢false, ⊎_elim, not-suc-le-zero, le_of_suc-le-suc, eq-or-lt_of_le}

pub and_left : (a b : Bool) → (a && b) ≡ true → a ≡ true
and_left true b h = refl
and_left false b h = h

pub and_right : (a b : Bool) → (a && b) ≡ true → b ≡ true
and_right true b h = h
and_right false b h = absurd (true≢false (sym h))

pub and_both : (a b : Bool) → a ≡ true → b ≡ true → (a && b) ≡ true
and_both true b h g = g
and_both false b h g = h

-- the test passes at each number below n
abbrev pub every : (ℕ → Bool) → ℕ → Bool
every f zero = true
every f (suc n) = f n && every f n

-- how many numbers below n pass the test
abbrev pub count : (ℕ → Bool) → ℕ → ℕ
count f zero = 0
count f (suc n) = cond (f n) 1 0 + count f n

pub each : (f : ℕ → Bool) (n : ℕ) → every f n ≡ true → (i : ℕ) → i < n → f i ≡ true
each f zero t i h = absurd (not-suc-le-zero h)
each f (suc n) t i h =
    ⊎_elim (λ (e : i ≡ n). subst (λ (m : ℕ). f m ≡ true) (sym e) (and_left (f n) (every f n) t))
    (λ (l : i < n). each f n (and_right (f n) (every f n) t) i l)
    (eq-or-lt_of_le (le_of_suc-le-suc h))
