-- The table of readings: one test, which is computed at each of its rows, and a law that gives the parity and repair rule at each entry.
use mathlib.Core.Path.{◌≡◌, sym, ap, subst, ◌∙◌}
use mathlib.Core.Bool.{true}
use Prim.Native.Nat.{ℕ, ◌+◌, ◌<◌}
use borrow.Author.Tests.{eqb-true}
use Rattle.bits.specs.Every.{every, each}
use Rattle.line_code.specs.LineCode.{reading_of, reading_numbered}
use Rattle.line_code.specs.LineCodeLaws.{number_back}
use Rattle.line_code.specs.Parts.{entry_at, entry_holds, RowHolds}

-- a row that is named by a byte, and whose test was computed
pub held : {first key r : ℕ} → first ≡ key → every (entry_holds key r) 8 ≡ true → RowHolds first r
held {first} {key} {r} e h = subst (λ (n : ℕ). RowHolds n r) (sym e) (record { entries = h })

pub entry : (first r place : ℕ) → RowHolds first r → place < 8 → reading_numbered (entry_at r place) ≡ reading_of (first + place)
entry first r place h g = ap reading_numbered (eqb-true _ _ (each (entry_holds first r) 8 h.entries place g)) ∙ number_back (reading_of (first + place))
