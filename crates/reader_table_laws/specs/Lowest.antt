-- Openings take the lowest free place, and 33 comes exactly when all are taken; every table that calls reach has eight places.
use Rattle.std.specs.Prelude.{◌≡◌, refl, Bool, true, false, cond, List, [], ◌∷◌, ℕ, zero, suc, ◌<◌, eqb, ltb, length, get_or, None, Option as Optional, Some}
use Rattle.std.proofs.Common.{sym, ap, ◌∙◌, subst, not-suc-le-zero, le_of_suc-le-suc, arith, ltb-true, ltb-false, length-set}
use Rattle.std.proofs.Math.Option.{Option, none, some}
use Rattle.std.proofs.lemmas.Bool.{eqb-false}
use Rattle.refusal.specs.Refusal.{no_such_technician, no_place_free}
use Rattle.profile.specs.declared.Profile.{Profile}
use Rattle.profile.specs.Profile.{profile_numbered}
use Rattle.reader.specs.declared.Reader.{Reader}
use Rattle.reader.specs.Reader.{fresh_reader}
use Rattle.refinement.specs.Runs.{run_result}
use Rattle.reader_table.specs.declared.TablePlace.{TablePlace}
use Rattle.reader_table.specs.declared.ReaderTable.{ReaderTable}
use Rattle.technician.specs.Technician.{is_technician}
use Rattle.reader_table.specs.Table.{nobody, place_for, free_place, place_count, empty_table, place_at, with_place, held_by, lowest_free, not_opened, opens_at, open_place, open_numbered, open_place_of, not_called, lent_to, call_held, call_place_of, close_held, close_place_of}
use Rattle.reader_table_laws.specs.History.{TableRequest, to_open, to_read, to_close, TableCall, serve, table_after}
use Rattle.reader_table_laws.specs.FreePlaces.{Free, OpensLowest, all_taken, lowest_one}
use Rattle.reader_table_laws.specs.Places.{lowest_free_lem}

-- Tables keep their places: eight, from an empty table on.

pub put_length : (t : ReaderTable) (i : ℕ) (p : TablePlace) → length (with_place t i p).places ≡ length t.places
unfolding with_place
put_length t i p = length-set t.places i p

serve_length : (t : ReaderTable) (who : ℕ) (q : TableRequest) → length (serve t who q).table.places ≡ length t.places
unfolding open_place_of open_place call_place_of close_place_of
serve_length t who (to_open n) = go (is_technician who) (profile_numbered n)
  where
    at : (p : Profile) (b : Bool)
        → length
        (cond b
        (opens_at t who p (lowest_free t.places))
        (not_opened t no_place_free)).table.places
        ≡ length t.places
    at p true = put_length t (lowest_free t.places) (place_for who (fresh_reader p))
    at p false = refl

    go : (a : Bool) (m : Optional Profile) → length (cond a (open_numbered t who m) (not_opened t no_such_technician)).table.places ≡ length t.places
    go true (Some p) = at p (ltb (lowest_free t.places) (length t.places))
    go true None = refl
    go false m = refl
serve_length t who (to_read i c) = go (is_technician who) (held_by t who i)
  where
    go : (a : Bool) (o : Option Reader) → length (cond a (call_held o t who i c) (not_called t no_such_technician (lent_to c))).table.places ≡ length t.places
    go false o = refl
    go true none = refl
    go true (some r) = put_length t i (place_for who (run_result r c).reader)
serve_length t who (to_close i) = go (is_technician who) (held_by t who i)
  where
    go : (a : Bool) (o : Option Reader) → length (cond a (close_held o t i) (not_called t no_such_technician [])).table.places ≡ length t.places
    go false o = refl
    go true none = refl
    go true (some r) = put_length t i free_place

after_length : (h : List TableCall) (t : ReaderTable) → length (table_after t h).places ≡ length t.places
after_length [] t = refl
after_length (c ∷ h) t = after_length h (serve t c.who c.request).table ∙ serve_length t c.who c.request

pub eight : (h : List TableCall) → length (table_after empty_table h).places ≡ place_count
eight h = after_length h empty_table

-- The lowest free place of a list.

pub taken_below : (ps : List TablePlace) (i : ℕ) → i < lowest_free ps → (get_or ps i free_place).owner ≡ nobody → ⊥
taken_below [] i l e = not-suc-le-zero l
taken_below (p ∷ ps) i l e = go (eqb p.owner nobody) refl (taken_below ps) i l e
  where
    go : (b : Bool) → eqb p.owner nobody ≡ b → ((j : ℕ) → j < lowest_free ps → (get_or ps j free_place).owner ≡ nobody → ⊥)
        → (j : ℕ) → j < cond b 0 (suc (lowest_free ps)) → (get_or (p ∷ ps) j free_place).owner ≡ nobody → ⊥
    go true f rec j l e = not-suc-le-zero l
    go false f rec zero l e = eqb-false _ _ f e
    go false f rec (suc j) l e = rec j (le_of_suc-le-suc l) e

-- Openings.

pub opens_lowest : (t : ReaderTable) (who n : ℕ) (p : Profile) → is_technician who ≡ true → profile_numbered n ≡ Some p → OpensLowest t (open_place_of t who n).placing
unfolding open_place_of open_place place_at
opens_lowest t who n p h e =
    subst (OpensLowest t)
    (sym
    (ap (λ (b : Bool). (cond b (open_numbered t who (profile_numbered n)) (not_opened t no_such_technician)).placing) h
    ∙ ap (λ (m : Optional Profile). (open_numbered t who m).placing) e))
    (go (ltb (lowest_free t.places) (length t.places)) refl)
  where
    below : (j : ℕ) → j < lowest_free t.places → Free t j → ⊥
    below j l f = taken_below t.places j l f.is_free

    go : (b : Bool) → ltb (lowest_free t.places) (length t.places) ≡ b
        → OpensLowest t
        (cond b
        (opens_at t who p (lowest_free t.places))
        (not_opened t no_place_free)).placing
    go true l = lowest_one (lowest_free t.places) (record { is_there = ltb-true _ _ l; is_free = lowest_free_lem t }) below
    go false l = all_taken (λ i f. let k = f.is_there in let m = ltb-false (lowest_free t.places) (length t.places) l in below i (omega (arith, k, m)) f)
