-- A gain code is at most 7.
use Rattle.std.specs.Prelude.{◌≡◌, Bool, true, false, cond, ℕ, ◌≤◌, eqb}
use Rattle.std.proofs.Common.{sym, true≢false, arith, eqb-true}
use Rattle.exposure.specs.Exposure.{is_gain}

pub gain_small : (n : ℕ) → is_gain n ≡ true → n ≤ 7
unfolding is_gain
gain_small n = by_codes (eqb n 0) (eqb n 1) (eqb n 3) (eqb n 7)
    (λ e. omega (arith, eqb-true n 0 e)) (λ e. omega (arith, eqb-true n 1 e)) (λ e. omega (arith, eqb-true n 3 e)) (λ e. omega (arith, eqb-true n 7 e))
  where
    by_codes : (a b c d : Bool) → (a ≡ true → n ≤ 7) → (b ≡ true → n ≤ 7) → (c ≡ true → n ≤ 7) → (d ≡ true → n ≤ 7)
        → cond a true (cond b true (cond c true (cond d true false))) ≡ true → n ≤ 7
    by_codes true b c d f g h k t = f t
    by_codes false true c d f g h k t = g t
    by_codes false false true d f g h k t = h t
    by_codes false false false true f g h k t = k t
    by_codes false false false false f g h k t = absurd (true≢false (sym t))
