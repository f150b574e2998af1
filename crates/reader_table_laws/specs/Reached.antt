-- Every reader in a table that calls reach is one that calls of its own reach, from a fresh one; so 11 never comes of it.
use Rattle.std.specs.Prelude.{◌≡◌, refl, Bool, true, false, cond, List, [], ◌∷◌, ◌++◌, ℕ, zero, suc, eqb, get_or, replicate, None, Option as Optional, Some}
use Rattle.std.proofs.Common.{sym, ap, ◌∙◌, subst, arith, eqb-true}
use Rattle.std.proofs.Math.Option.{Option, none, some}
use Rattle.refusal.specs.Refusal.{bad_state, no_such_technician, place_not_held}
use Rattle.profile.specs.declared.Profile.{Profile}
use Rattle.profile.specs.Profile.{profile_numbered}
use Rattle.stream.specs.Answers.{refused, answer_for}
use Rattle.mark_answer.specs.Sound.{refusal_of}
use Rattle.reader.specs.declared.Reader.{Reader}
use Rattle.reader.specs.Reader.{fresh_reader}
use Rattle.refinement.specs.ReaderCallsLaws.{answered}
use Rattle.refinement.specs.Runs.{RunCall, run_result, on_runs}
use Rattle.refinement.proofs.RunsReached.{runs_never_eleven}
use Rattle.reader_table.specs.declared.ReaderTable.{ReaderTable}
use Rattle.technician.specs.Technician.{is_technician}
use Rattle.reader_table.specs.Table.{free_place, place_count, empty_table, place_at, held_by, Placing, at_place, not_placed, open_place_of, not_called, lent_to, call_held, call_place_of}
use Rattle.reader_table_laws.specs.History.{OwnCalls, TableRequest, to_open, to_read, to_close, TableCall, serve, table_after}
use Rattle.reader_table_laws.specs.Lending.{but}
use Rattle.reader_table_laws.specs.Places.{somebody, holding, held, view}
use Rattle.reader_table_laws.specs.Views.{other_keeps, kept_held, kept_closed, kept_opened, opens, reads, closes}

one_more_lem : (cs : List RunCall) (r : Reader) (c : RunCall) → on_runs r (cs ++ (c ∷ [])) ≡ (run_result (on_runs r cs) c).reader
one_more_lem [] r c = refl
one_more_lem (d ∷ cs) r c = one_more_lem cs (run_result r d).reader c

fresh_own : (p : Profile) → OwnCalls (fresh_reader p)
fresh_own p = record { profile = p; calls = []; reached = refl }

called_own : (r : Reader) (c : RunCall) → OwnCalls r → OwnCalls (run_result r c).reader
called_own r c k =
    record {
      profile = k.profile;
      calls = k.calls ++ (c ∷ []);
      reached = ap (λ (x : Reader). (run_result x c).reader) k.reached ∙ sym (one_more_lem k.calls (fresh_reader k.profile) c);
    }

-- Each reader that a technician holds.

abbrev OwnHeld : Option Reader → Type 0
OwnHeld none = Unit {0}
OwnHeld (some r) = OwnCalls r

abbrev OwnView : (ℕ → Option Reader) → Type 0
OwnView v = (i : ℕ) → OwnHeld (v i)

but_own : (v : ℕ → Option Reader) (j : ℕ) (x : Option Reader) → OwnView v → OwnHeld x → OwnView (but v j x)
but_own v j x k l i = go (eqb i j)
  where
    go : (b : Bool) → OwnHeld (cond b x (v i))
    go true = l
    go false = k i

opened_own : (v : ℕ → Option Reader) (m : Optional Profile) (o : Placing) → OwnView v → OwnView (kept_opened v m o)
opened_own v (Some p) (at_place j) k = but_own v j (some (fresh_reader p)) k (fresh_own p)
opened_own v (Some p) (not_placed n) k = k
opened_own v None o k = k

held_own : (v : ℕ → Option Reader) (j : ℕ) (c : RunCall) (o : Option Reader) → OwnHeld o → OwnView v → OwnView (kept_held v j c o)
held_own v j c none l k = k
held_own v j c (some r) l k = but_own v j (some (run_result r c).reader) k (called_own r c l)

closed_own : (v : ℕ → Option Reader) (j : ℕ) (o : Option Reader) → OwnView v → OwnView (kept_closed v j o)
closed_own v j none k = k
closed_own v j (some r) k = but_own v j none k tt

module _ (who : ℕ) (h : is_technician who ≡ true) where
  own_own : (t : ReaderTable) (q : TableRequest) → OwnView (view who t) → OwnView (view who (serve t who q).table)
  own_own t (to_open n) k =
      subst OwnView (sym (opens who h t n)) (opened_own (view who t) (profile_numbered n) (open_place_of t who n).placing k)
  own_own t (to_read j c) k = subst OwnView (sym (reads who h t j c).1) (held_own (view who t) j c (view who t j) (k j) k)
  own_own t (to_close j) k = subst OwnView (sym (closes who h t j).1) (closed_own (view who t) j (view who t j) k)

  serve_own : (t : ReaderTable) (c : TableCall) → OwnView (view who t) → OwnView (view who (serve t c.who c.request).table)
  serve_own t c k = go (eqb c.who who) refl
    where
      go : (b : Bool) → eqb c.who who ≡ b → OwnView (view who (serve t c.who c.request).table)
      go true f = subst (λ (n : ℕ). OwnView (view who (serve t n c.request).table)) (sym (eqb-true _ _ f)) (own_own t c.request k)
      go false f = subst OwnView (sym (other_keeps who h c.who f t c.request)) k

  after_own : (cs : List TableCall) (t : ReaderTable) → OwnView (view who t) → OwnView (view who (table_after t cs))
  after_own [] t k = k
  after_own (c ∷ cs) t k = after_own cs (serve t c.who c.request).table (serve_own t c k)

-- in an empty table nothing is held
all_free : (n i : ℕ) → get_or (replicate n free_place) i free_place ≡ free_place
all_free zero i = refl
all_free (suc n) zero = refl
all_free (suc n) (suc i) = all_free n i

pub none_in_empty : (who : ℕ) → is_technician who ≡ true → (i : ℕ) → held_by empty_table who i ≡ none
unfolding place_at
none_in_empty who h i =
    held empty_table who i
    ∙ ap (holding who) (all_free place_count i)
    ∙ ap (λ (b : Bool). cond b (some free_place.reader) none) (somebody who h)

-- every reader that is held
pub reached_own : (cs : List TableCall) (who i : ℕ) (r : Reader) → is_technician who ≡ true → held_by (table_after empty_table cs) who i ≡ some r
    → OwnCalls r
reached_own cs who i r h e = subst OwnHeld e (after_own who h cs empty_table (λ j. subst OwnHeld (sym (none_in_empty who h j)) tt) i)

-- 11 never comes of a reader in a table that calls reached: singles, runs and finish
pub table_never_eleven : (cs : List TableCall) (who i : ℕ) (c : RunCall) → (call_place_of (table_after empty_table cs) who i c).answer ≡ answer_for (refused bad_state) → ⊥
unfolding call_place_of
table_never_eleven cs who i c = go (is_technician who) (held_by t who i) refl refl
  where
    t : ReaderTable
    t = table_after empty_table cs

    -- 32 and 34 are not 11
    other : (n : ℕ) → (n ≡ bad_state → ⊥) → answer_for (refused n) ≡ answer_for (refused bad_state) → ⊥
    other n d f = d (ap refusal_of (answered (refused n) bad_state f))

    go : (a : Bool) (o : Option Reader) → is_technician who ≡ a → held_by t who i ≡ o
        → (cond a (call_held o t who i c) (not_called t no_such_technician (lent_to c))).answer ≡ answer_for (refused bad_state) → ⊥
    go true (some r) h e f =
        let k = reached_own cs who i r h e in
        runs_never_eleven k.profile k.calls c (ap (λ (x : Reader). (run_result x c).answer) (sym k.reached) ∙ f)
    go true none h e f = other place_not_held (λ q. omega (arith, q)) f
    go false o h e f = other no_such_technician (λ q. omega (arith, q)) f
