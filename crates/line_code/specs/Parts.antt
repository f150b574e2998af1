-- What the contracts of the private functions cite besides: the program's table of readings, of 32 rows.
use Rattle.std.specs.Prelude.{◌≡◌, Bool, true, ℕ, ◌+◌, ◌-◌, ◌*◌, ◌/◌, ◌%◌, ◌^◌, eqb}
use Rattle.bits.specs.Every.{every}
use Rattle.line_code.specs.LineCode.{reading_of, reading_number}

-- the entry at a place of the table's row: eight entries of a byte each, the first highest
abbrev pub entry_at : ℕ → ℕ → ℕ
entry_at r i = r / 2 ^ (8 * (7 - i)) % 256

-- it is the number of its byte's reading
abbrev pub entry_holds : ℕ → ℕ → ℕ → Bool
entry_holds first r i = eqb (entry_at r i) (reading_number (reading_of (first + i)))

-- a row of the table, named by its first byte: one test of its entries
pub record RowHolds (first r : ℕ) : Type 0 where
  pub entries : every (entry_holds first r) 8 ≡ true
