-- The four parity sums of a code byte 1 C2 C1 C0 P3 P2 P1 P0 (01; 004, Table 6), one by one: which of them fail.
use Rattle.std.specs.Prelude.{Bool, ℕ, ◌+◌, ◌%◌, eqb}
use Rattle.bits.specs.Bits.{bit}
use Rattle.reason.specs.declared.FailedSums.{FailedSums}

-- the ones of each sum: C2 C1 C0 P0; C2 C1 P1; C2 C0 P2; C1 C0 P3
abbrev pub sum_p0 : ℕ → ℕ
sum_p0 b = bit b 6 + bit b 5 + bit b 4 + bit b 0

-- the parity sum of P1
abbrev pub sum_p1 : ℕ → ℕ
sum_p1 b = bit b 6 + bit b 5 + bit b 1

-- the parity sum of P2
abbrev pub sum_p2 : ℕ → ℕ
sum_p2 b = bit b 6 + bit b 4 + bit b 2

-- the parity sum of P3
abbrev pub sum_p3 : ℕ → ℕ
sum_p3 b = bit b 5 + bit b 4 + bit b 3

-- a sum is odd
abbrev pub is_odd : ℕ → Bool
is_odd n = eqb (n % 2) 1

-- a sum fails where its ones are odd
unfoldable pub failed_sums : ℕ → FailedSums
failed_sums b = record { p0 = is_odd (sum_p0 b); p1 = is_odd (sum_p1 b); p2 = is_odd (sum_p2 b); p3 = is_odd (sum_p3 b) }
