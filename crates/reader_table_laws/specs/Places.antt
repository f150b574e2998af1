-- Laws of places: what a technician holds after a place is put into the table; the lowest free place is free.
use Rattle.std.specs.Prelude.{◌≡◌, refl, Bool, true, false, cond, List, [], ◌∷◌, ℕ, suc, ◌≤◌, ◌<◌, eqb, ltb, length, get_or, set}
use Rattle.std.proofs.Common.{sym, ap, ◌∙◌, true≢false, arith, ltb-true, ltb-false, eqb-true, ne_eqb, length-set, get_or-set_same, get_or-set_other}
use Rattle.std.proofs.Math.Option.{Option, none, some}
use Rattle.std.proofs.lemmas.Bool.{eqb-false}
use Rattle.std.proofs.Math.ListN.{get_or-eq_default}
use Rattle.reader.specs.declared.Reader.{Reader}
use Rattle.reader_table.specs.declared.TablePlace.{TablePlace}
use Rattle.reader_table.specs.declared.ReaderTable.{ReaderTable}
use Rattle.technician.specs.Technician.{is_technician}
use Rattle.reader_table.specs.Table.{nobody, free_place, place_at, with_place, held_by, lowest_free}
use Rattle.reader_table_laws.specs.Lending.{but}

-- a technician is not nobody
pub somebody : (who : ℕ) → is_technician who ≡ true → eqb nobody who ≡ false
unfolding is_technician
somebody who h = ne_eqb nobody who (λ e. true≢false (sym h ∙ ap is_technician (sym e)))

-- what a technician holds of a place
abbrev pub holding : ℕ → TablePlace → Option Reader
holding who p = cond (eqb p.owner who) (some p.reader) none

pub held : (t : ReaderTable) (who i : ℕ) → held_by t who i ≡ holding who (place_at t i)
unfolding held_by
held t who i = refl

-- A place that is put into the table.

pub put_same : (t : ReaderTable) (j : ℕ) (p : TablePlace) → j < length t.places → place_at (with_place t j p) j ≡ p
unfolding place_at with_place
put_same t j p l = get_or-set_same t.places j p free_place l

pub put_other : (t : ReaderTable) (i j : ℕ) (p : TablePlace) → eqb i j ≡ false → place_at (with_place t j p) i ≡ place_at t i
unfolding place_at with_place
put_other t i j p e = get_or-set_other t.places j i p free_place (eqb-false i j e)

put_out : (t : ReaderTable) (j : ℕ) (p : TablePlace) → length t.places ≤ j → place_at (with_place t j p) j ≡ free_place
unfolding place_at with_place
put_out t j p l = get_or-eq_default (set t.places j p) free_place {n = j} (omega (arith, length-set t.places j p))

-- all that a technician holds, place by place
abbrev pub view : ℕ → ReaderTable → ℕ → Option Reader
view who t i = held_by t who i

-- one that is there
pub view_put : (who : ℕ) (t : ReaderTable) (j : ℕ) (p : TablePlace) → j < length t.places → view who (with_place t j p) ≡ but (view who t) j (holding who p)
view_put who t j p l = λ k i. at i (eqb i j) refl k
  where
    at : (i : ℕ) (b : Bool) → eqb i j ≡ b → held_by (with_place t j p) who i ≡ cond b (holding who p) (held_by t who i)
    at i true e =
        held (with_place t j p) who i
        ∙ ap (λ (n : ℕ). holding who (place_at (with_place t j p) n)) (eqb-true i j e)
        ∙ ap (holding who) (put_same t j p l)
    at i false e = held (with_place t j p) who i ∙ ap (holding who) (put_other t i j p e) ∙ sym (held t who i)

none_held : (who : ℕ) (p : TablePlace) → eqb p.owner who ≡ false → holding who p ≡ none
none_held who p e = ap (λ (b : Bool). cond b (some p.reader) none) e

-- one that is not theirs before and after
pub view_foreign : (who : ℕ) (t : ReaderTable) (j : ℕ) (p : TablePlace) → eqb nobody who ≡ false → eqb (place_at t j).owner who ≡ false → eqb p.owner who ≡ false
    → view who (with_place t j p) ≡ view who t
view_foreign who t j p f g e = λ k i. at i (eqb i j) refl k
  where
    there : (b : Bool) → ltb j (length t.places) ≡ b → holding who (place_at (with_place t j p) j) ≡ none
    there true l = ap (holding who) (put_same t j p (ltb-true _ _ l)) ∙ none_held who p e
    there false l = ap (holding who) (put_out t j p (ltb-false _ _ l)) ∙ none_held who free_place f

    at : (i : ℕ) (b : Bool) → eqb i j ≡ b → held_by (with_place t j p) who i ≡ held_by t who i
    at i true q =
        held (with_place t j p) who i
        ∙ ap (λ (n : ℕ). holding who (place_at (with_place t j p) n)) (eqb-true i j q)
        ∙ there (ltb j (length t.places)) refl
        ∙ sym (none_held who (place_at t j) g)
        ∙ ap (λ (n : ℕ). holding who (place_at t n)) (sym (eqb-true i j q))
        ∙ sym (held t who i)
    at i false q = held (with_place t j p) who i ∙ ap (holding who) (put_other t i j p q) ∙ sym (held t who i)

-- A place that is held.

-- a reader is held
abbrev pub is_there : Option Reader → Bool
is_there none = false
is_there (some r) = true

pub owned : (t : ReaderTable) (who i : ℕ) (r : Reader) → held_by t who i ≡ some r → (place_at t i).owner ≡ who
owned t who i r e = go (eqb (place_at t i).owner who) refl (sym (held t who i) ∙ e)
  where
    go : (b : Bool) → eqb (place_at t i).owner who ≡ b → cond b (some (place_at t i).reader) none ≡ some r → (place_at t i).owner ≡ who
    go true f q = eqb-true _ _ f
    go false f q = absurd (true≢false (sym (ap is_there q)))

pub there : (t : ReaderTable) (who i : ℕ) (r : Reader) → is_technician who ≡ true → held_by t who i ≡ some r → i < length t.places
unfolding place_at
there t who i r h e = go (ltb i (length t.places)) refl
  where
    go : (b : Bool) → ltb i (length t.places) ≡ b → i < length t.places
    go true l = ltb-true _ _ l
    go false l =
        absurd
        (eqb-false nobody who (somebody who h)
        (sym (ap (λ (p : TablePlace). p.owner) (get_or-eq_default t.places free_place {n = i} (ltb-false _ _ l))) ∙ owned t who i r e))

-- The lowest free place is free.

lowest : (ps : List TablePlace) → (get_or ps (lowest_free ps) free_place).owner ≡ nobody
lowest [] = refl
lowest (p ∷ ps) = go (eqb p.owner nobody) refl (lowest ps)
  where
    go : (b : Bool) → eqb p.owner nobody ≡ b → (get_or ps (lowest_free ps) free_place).owner ≡ nobody
        → (get_or (p ∷ ps) (cond b 0 (suc (lowest_free ps))) free_place).owner ≡ nobody
    go true e k = eqb-true _ _ e
    go false e k = k

pub lowest_free_lem : (t : ReaderTable) → (place_at t (lowest_free t.places)).owner ≡ nobody
unfolding place_at
lowest_free_lem t = lowest t.places
