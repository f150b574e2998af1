-- The lowest free place of a table in bytes, looked for from the place i on.
use mathlib.Core.Path.{◌≡◌, sym, ap, ◌∙◌}
use mathlib.Core.Bool.{true, false, cond}
use mathlib.Core.List.{List}
use Prim.Native.Nat.{ℕ, suc, ◌+◌, ◌-◌, ◌≤◌, ◌<◌}
use native.Mathlib.Numerals.{add-one}
use native.Mathlib.Omega.{arith}
use lib.Dec.{eqb}
use lib.ListN.{get_or}
use Rattle.reader_table.specs.Table.{nobody, place_count}
use Rattle.fluturenc_table.specs.TableBytes.{place_start, lowest_from}

module _ (s : List ℕ) (i : ℕ) where
  step : i < place_count
      → lowest_from (place_count - i) i s
      ≡ cond (eqb (get_or s (place_start i) 0) nobody) i (lowest_from (place_count - (i + 1)) (i + 1) s)
  step l =
      let e : place_count - i ≡ suc (place_count - (i + 1)) = omega (arith, l) in
      ap (λ (k : ℕ). lowest_from k i s) e
      ∙ ap (λ (k : ℕ). cond (eqb (get_or s (place_start i) 0) nobody) i (lowest_from (place_count - (i + 1)) k s)) (sym (add-one i))

  pub here : i < place_count → eqb (get_or s (place_start i) 0) nobody ≡ true → lowest_from (place_count - i) i s ≡ i
  here l e = step l ∙ simp (e)

  pub further : i < place_count → eqb (get_or s (place_start i) 0) nobody ≡ false
      → lowest_from (place_count - i) i s ≡ lowest_from (place_count - (i + 1)) (i + 1) s
  further l e = step l ∙ simp (e)

  pub none_left : place_count ≤ i → lowest_from (place_count - i) i s ≡ i
  none_left l = let e : place_count - i ≡ 0 = omega (arith, l) in ap (λ (k : ℕ). lowest_from k i s) e
