-- At each of the table's 32 rows one test, which is computed, holds the eight entries to the parity and repair rules.
-- a number that names none of the first m rows
use mathlib.Core.Path.{◌≡◌, refl}
use Prim.Native.Nat.{ℕ, zero, suc, ◌*◌, ◌%◌, ◌≤◌}
use native.Mathlib.Omega.{arith}
use Rattle.line_code.specs.LineCode.{kind_numbered, reserved_of, meaning_of, reading_of}
use Rattle.line_code.proofs.Bytes.{held}
use Rattle.line_code.proofs.row.Goals as goal

abbrev Beyond : ℕ → ℕ → Type 0
Beyond zero n = Unit
Beyond (suc m) n = Beyond m n × (n ≡ 8 * m → ⊥)

beyond : (m n : ℕ) → n % 8 ≡ 0 → Beyond m n → 8 * m ≤ n
beyond zero n e b = omega arith
beyond (suc m) n e b = omega (arith, beyond m n e b.0, b.1)

pub returns-in-0 : goal.returns-in-0
unfolding reading_of meaning_of kind_numbered reserved_of
returns-in-0 c = held c.in-0.is refl

pub returns-in-8 : goal.returns-in-8
unfolding reading_of meaning_of kind_numbered reserved_of
returns-in-8 c = held c.in-8.is refl

pub returns-in-16 : goal.returns-in-16
unfolding reading_of meaning_of kind_numbered reserved_of
returns-in-16 c = held c.in-16.is refl

pub returns-in-24 : goal.returns-in-24
unfolding reading_of meaning_of kind_numbered reserved_of
returns-in-24 c = held c.in-24.is refl

pub returns-in-32 : goal.returns-in-32
unfolding reading_of meaning_of kind_numbered reserved_of
returns-in-32 c = held c.in-32.is refl

pub returns-in-40 : goal.returns-in-40
unfolding reading_of meaning_of kind_numbered reserved_of
returns-in-40 c = held c.in-40.is refl

pub returns-in-48 : goal.returns-in-48
unfolding reading_of meaning_of kind_numbered reserved_of
returns-in-48 c = held c.in-48.is refl

pub returns-in-56 : goal.returns-in-56
unfolding reading_of meaning_of kind_numbered reserved_of
returns-in-56 c = held c.in-56.is refl

pub returns-in-64 : goal.returns-in-64
unfolding reading_of meaning_of kind_numbered reserved_of
returns-in-64 c = held c.in-64.is refl

pub returns-in-72 : goal.returns-in-72
unfolding reading_of meaning_of kind_numbered reserved_of
returns-in-72 c = held c.in-72.is refl

pub returns-in-80 : goal.returns-in-80
unfolding reading_of meaning_of kind_numbered reserved_of
returns-in-80 c = held c.in-80.is refl

pub returns-in-88 : goal.returns-in-88
unfolding reading_of meaning_of kind_numbered reserved_of
returns-in-88 c = held c.in-88.is refl

pub returns-in-96 : goal.returns-in-96
unfolding reading_of meaning_of kind_numbered reserved_of
returns-in-96 c = held c.in-96.is refl

pub returns-in-104 : goal.returns-in-104
unfolding reading_of meaning_of kind_numbered reserved_of
returns-in-104 c = held c.in-104.is refl

pub returns-in-112 : goal.returns-in-112
unfolding reading_of meaning_of kind_numbered reserved_of
returns-in-112 c = held c.in-112.is refl

pub returns-in-120 : goal.returns-in-120
unfolding reading_of meaning_of kind_numbered reserved_of
returns-in-120 c = held c.in-120.is refl

pub returns-in-128 : goal.returns-in-128
unfolding reading_of meaning_of kind_numbered reserved_of
returns-in-128 c = held c.in-128.is refl

pub returns-in-136 : goal.returns-in-136
unfolding reading_of meaning_of kind_numbered reserved_of
returns-in-136 c = held c.in-136.is refl

pub returns-in-144 : goal.returns-in-144
unfolding reading_of meaning_of kind_numbered reserved_of
returns-in-144 c = held c.in-144.is refl

pub returns-in-152 : goal.returns-in-152
unfolding reading_of meaning_of kind_numbered reserved_of
returns-in-152 c = held c.in-152.is refl

pub returns-in-160 : goal.returns-in-160
unfolding reading_of meaning_of kind_numbered reserved_of
returns-in-160 c = held c.in-160.is refl

pub returns-in-168 : goal.returns-in-168
unfolding reading_of meaning_of kind_numbered reserved_of
returns-in-168 c = held c.in-168.is refl

pub returns-in-176 : goal.returns-in-176
unfolding reading_of meaning_of kind_numbered reserved_of
returns-in-176 c = held c.in-176.is refl

pub returns-in-184 : goal.returns-in-184
unfolding reading_of meaning_of kind_numbered reserved_of
returns-in-184 c = held c.in-184.is refl

pub returns-in-192 : goal.returns-in-192
unfolding reading_of meaning_of kind_numbered reserved_of
returns-in-192 c = held c.in-192.is refl

pub returns-in-200 : goal.returns-in-200
unfolding reading_of meaning_of kind_numbered reserved_of
returns-in-200 c = held c.in-200.is refl

pub returns-in-208 : goal.returns-in-208
unfolding reading_of meaning_of kind_numbered reserved_of
returns-in-208 c = held c.in-208.is refl

pub returns-in-216 : goal.returns-in-216
unfolding reading_of meaning_of kind_numbered reserved_of
returns-in-216 c = held c.in-216.is refl

pub returns-in-224 : goal.returns-in-224
unfolding reading_of meaning_of kind_numbered reserved_of
returns-in-224 c = held c.in-224.is refl

pub returns-in-232 : goal.returns-in-232
unfolding reading_of meaning_of kind_numbered reserved_of
returns-in-232 c = held c.in-232.is refl

pub returns-in-240 : goal.returns-in-240
unfolding reading_of meaning_of kind_numbered reserved_of
returns-in-240 c = held c.in-240.is refl

pub returns-in_default : goal.returns-in_default
unfolding reading_of meaning_of kind_numbered reserved_of
returns-in_default c =
    let least = beyond 31 c.args.first c.requires c.in_default.in_default-own.rest in
    let e : c.args.first ≡ 0xF8 = omega (arith, least, c.requires) in
    held e refl
