-- A place of which a technician is refused nothing is there, and the bytes are a table's.
use mathlib.Core.Path.{◌≡◌, refl, sym, ap, ◌∙◌}
use mathlib.Core.Bool.{Bool, true, false, true≢false, cond}
use mathlib.Core.List.{List}
use Prim.Native.Nat.{ℕ, ◌≤◌, ◌<◌}
use native.Mathlib.Omega.{arith}
use borrow.Author.Tests.{ltb-true, leb-true, eqb-true}
use lib.Dec.{eqb, leb, ltb}
use lib.ListN.{length, get_or}
use Rattle.refusal.specs.Refusal.{bad_state, no_such_technician, place_not_held}
use Rattle.std.specs.Prelude.{None}
use Rattle.technician.specs.Technician.{is_technician, denial_by, denial_for}
use Rattle.technician.specs.TechnicianLaws.{granted as nothing_denied}
use Rattle.reader_table.specs.Table.{nobody, place_count}
use Rattle.fluturenc_table.specs.TableBytes.{table_length, place_start, owner_at, denial_at}

nobody_denied : (who : ℕ) → denial_by who nobody ≡ 0 → ⊥
unfolding denial_by is_technician
nobody_denied who = go (is_technician who) (eqb nobody who) refl refl
  where
    go : (a b : Bool) → is_technician who ≡ a → eqb nobody who ≡ b → cond a (cond b 0 place_not_held) no_such_technician ≡ 0 → ⊥
    go true true e f z = true≢false (sym e ∙ ap is_technician (sym (eqb-true nobody who f)))
    go true false e f z = omega (arith, z)
    go false b e f z = omega (arith, z)

pub granted : (s : List ℕ) (who i : ℕ) → None ≡ denial_for (denial_at s who i) → (i < place_count) × (table_length ≤ length s)
unfolding denial_at owner_at
granted s who i e = go (leb table_length (length s)) (ltb i place_count) refl refl (nothing_denied _ e)
  where
    go : (a b : Bool) → leb table_length (length s) ≡ a → ltb i place_count ≡ b
        → cond a (denial_by who (cond b (get_or s (place_start i) 0) nobody)) bad_state ≡ 0
        → (i < place_count) × (table_length ≤ length s)
    go true true f g k = (ltb-true _ _ g, leb-true _ _ f)
    go true false f g k = absurd (nobody_denied who k)
    go false b f g k = absurd (omega (arith, k))
