-- A closed place is free again, and opens fresh: the close puts a free place there, and nothing else moves.
use Rattle.std.specs.Prelude.{◌≡◌, Bool, true, false, cond, [], ltb, length, Some}
use Rattle.std.proofs.Math.Path.{refl}
use Rattle.std.proofs.Common.{sym, ap, ◌∙◌, subst, true≢false, arith}
use Rattle.std.proofs.Math.Option.{Option, none, some}
use Prim.Native.Nat.{ℕ, ◌<◌}
use borrow.Author.Tests.{ltb-true, ltb-false, lt-ltb, ne_eqb}
use Rattle.refusal.specs.Refusal.{no_such_technician}
use Rattle.profile.specs.declared.Profile.{Profile}
use Rattle.profile.specs.Profile.{profile_numbered}
use Rattle.stream.specs.Answers.{nothing, answer_for, is_answer}
use Rattle.reader.specs.declared.Reader.{Reader}
use Rattle.reader_table.specs.declared.TablePlace.{TablePlace}
use Rattle.reader_table.specs.declared.ReaderTable.{ReaderTable}
use Rattle.technician.specs.Technician.{is_technician}
use Rattle.reader_table.specs.Table.{free_place, place_at, with_place, held_by, lowest_free, opens_at, open_place, open_place_of, not_called, close_held, close_place_of}
use Rattle.reader_table_laws.specs.FreePlaces.{Free, ClosedAgain}
use Rattle.reader_table_laws.specs.Places.{put_same, put_other, there, lowest_free_lem}
use Rattle.reader_table_laws.specs.Lowest.{put_length, taken_below}

-- a close that is not refused is of a place that is there
closed_is : (t : ReaderTable) (who i : ℕ) → (close_place_of t who i).answer ≡ answer_for nothing
    → ((close_place_of t who i).table ≡ with_place t i free_place) × (i < length t.places)
unfolding close_place_of
closed_is t who i = go (is_technician who) (held_by t who i) refl refl
  where
    go : (a : Bool) (o : Option Reader) → is_technician who ≡ a → held_by t who i ≡ o
        → (cond a (close_held o t i) (not_called t no_such_technician [])).answer ≡ answer_for nothing
        → ((cond a (close_held o t i) (not_called t no_such_technician [])).table ≡ with_place t i free_place) × (i < length t.places)
    go true (some r) h e f = (refl, there t who i r h e)
    go true none h e f = absurd (true≢false (ap is_answer f))
    go false o h e f = absurd (true≢false (ap is_answer f))

-- The table with the place freed.

module _ (t : ReaderTable) (i : ℕ) (l : i < length t.places) where
  abbrev freed : ReaderTable
  freed = with_place t i free_place

  freed_free : Free freed i
  freed_free =
      record {
        is_there = omega (arith, l, put_length t i free_place);
        is_free = ap (λ (p : TablePlace). p.owner) (put_same t i free_place l);
      }

  freed_others : (j : ℕ) → (j ≡ i → ⊥) → place_at freed j ≡ place_at t j
  freed_others j d = put_other t j i free_place (ne_eqb j i d)

  module _ (below : (j : ℕ) → j < i → Free t j → ⊥) where
    lowest_again : lowest_free freed.places ≡ i
    unfolding place_at
    lowest_again = go (ltb i lowest) (ltb lowest i) refl refl
      where
        lowest : ℕ
        lowest = lowest_free freed.places

        go : (a b : Bool) → ltb i lowest ≡ a → ltb lowest i ≡ b → lowest ≡ i
        go true b e f = absurd (taken_below freed.places i (ltb-true i lowest e) freed_free.is_free)
        go false true e f =
            let k = ltb-true lowest i f in
            absurd
            (below lowest k
            (record {
              is_there = omega (arith, k, l);
              is_free = ap (λ (p : TablePlace). p.owner) (sym (freed_others lowest (λ q. omega (arith, k, q)))) ∙ lowest_free_lem freed;
            }))
        go false false e f = let a = ltb-false i lowest e in let b = ltb-false lowest i f in omega (arith, a, b)

    freed_opens : (next n : ℕ) (p : Profile) → is_technician next ≡ true → profile_numbered n ≡ Some p
        → open_place_of freed next n ≡ opens_at freed next p i
    unfolding open_place_of open_place
    freed_opens next n p h e = simp (h, e, lowest_again, lt-ltb i (length freed.places) freed_free.is_there)

pub closed_again : (t : ReaderTable) (who i : ℕ) → (close_place_of t who i).answer ≡ answer_for nothing → ClosedAgain t who i
closed_again t who i e =
    let k = closed_is t who i e in
    record {
      is_free = subst (λ (u : ReaderTable). Free u i) (sym k.0) (freed_free t i k.1);
      others_stay = λ j d. ap (λ (u : ReaderTable). place_at u j) k.0 ∙ freed_others t i k.1 j d;
      opens_fresh = λ next n p h f below.
          subst (λ (u : ReaderTable). open_place_of u next n ≡ opens_at u next p i) (sym k.0) (freed_opens t i k.1 below next n p h f);
    }
