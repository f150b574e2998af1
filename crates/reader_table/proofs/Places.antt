-- Reads and stores of places in a list, and the lowest free place, as the library finds it.
use mathlib.Core.Path.{◌≡◌, refl, sym, ap, ◌∙◌}
use mathlib.Core.Bool.{Bool, true, false, cond}
use mathlib.Core.List.{List, [], ◌∷◌, map}
use Prim.Native.Nat.{ℕ, zero, suc, ◌+◌, ◌≤◌, ◌<◌}
use native.Mathlib.Nat.{not-suc-le-zero, le_of_suc-le-suc}
use native.Mathlib.Omega.{arith}
use borrow.Author.Tests.{ltb-false}
use lib.Dec.{eqb, ltb}
use lib.ListN.{length, get_or, set}
use Rattle.std.specs.Prelude.{Option, Some, None}
use Rattle.std.specs.List.{position_or_len}
use Rattle.std.specs.Option.{unwrap_or}
use Rattle.std.proofs.lemmas.List.Recursion.{is_position_or_len}
use Rattle.profile.specs.declared.Profile.TheVariants.{VV5404}
use Rattle.reader.specs.Reader.{fresh_reader}
use Rattle.reader_table.specs.declared.TablePlace.{TablePlace}
use Rattle.reader_table.specs.Table.{nobody, place_for, lowest_free}

-- the length of an array of structs, as a need is handed it: of the elements' values
pub length_of : (X Y : Type 0) (f : X → Y) (l : List X) (n : ℕ) → length (map f l) ≡ n → length l ≡ n
length_of X Y f [] n e = e
length_of X Y f (x ∷ l) n e = ap suc (length_of X Y f l (length (map f l)) refl) ∙ e

-- the checker's element past an array's end
abbrev pub absent : TablePlace
absent = place_for nobody (record { head = (fresh_reader VV5404).head; body = [] })

-- a read within the list has the same element whatever the default is
pub any_default : (ps : List TablePlace) (i : ℕ) (p q : TablePlace) → i < length ps → get_or ps i p ≡ get_or ps i q
any_default [] i p q h = absurd (not-suc-le-zero h)
any_default (x ∷ ps) zero p q h = refl
any_default (x ∷ ps) (suc i) p q h = any_default ps i p q (le_of_suc-le-suc h)

-- a store past the end changes nothing
pub set_out : (ps : List TablePlace) (i : ℕ) (p : TablePlace) → length ps ≤ i → set ps i p ≡ ps
set_out [] i p h = refl
set_out (x ∷ ps) zero p h = absurd (not-suc-le-zero h)
set_out (x ∷ ps) (suc i) p h = ap {B = List TablePlace} (λ l. x ∷ l) (set_out ps i p (le_of_suc-le-suc h))

-- The lowest free place, as `position` finds it.

abbrev pub is_free : TablePlace → Bool
is_free p = eqb p.owner nobody

first_free : (ps : List TablePlace) → lowest_free ps ≡ position_or_len is_free ps
first_free = is_position_or_len lowest_free is_free refl (λ p ps. let e : suc (lowest_free ps) ≡ 1 + lowest_free ps = omega arith in ap (cond (is_free p) 0) e)

lowest_most : (ps : List TablePlace) → lowest_free ps ≤ length ps
lowest_most [] = omega arith
lowest_most (p ∷ ps) = by (is_free p) (lowest_most ps)
  where
    by : (t : Bool) → lowest_free ps ≤ length ps → cond t 0 (suc (lowest_free ps)) ≤ suc (length ps)
    by true h = omega arith
    by false h = omega arith

found : List TablePlace → Option ℕ
found ps = cond (ltb (position_or_len is_free ps) (length ps)) (Some (position_or_len is_free ps)) None

found_is : (ps : List TablePlace) → unwrap_or (found ps) (length ps) ≡ lowest_free ps
unfolding found
found_is ps = ap (λ n. unwrap_or (cond (ltb n (length ps)) (Some n) None) (length ps)) (sym (first_free ps)) ∙ by (ltb (lowest_free ps) (length ps)) refl
  where
    by : (t : Bool) → ltb (lowest_free ps) (length ps) ≡ t → unwrap_or (cond t (Some (lowest_free ps)) None) (length ps) ≡ lowest_free ps
    by true e = refl
    by false e = omega (arith, ltb-false _ _ e, lowest_most ps)

pub lowest_found : (ps : List TablePlace) (r : Option ℕ) (n : ℕ) → length ps ≡ n
    → r ≡ cond (ltb (position_or_len is_free ps) (length ps)) (Some (position_or_len is_free ps)) None → unwrap_or r n ≡ lowest_free ps
unfolding found
lowest_found ps r n l e = ap (λ s. unwrap_or s n) e ∙ ap (unwrap_or (found ps)) (sym l) ∙ found_is ps
