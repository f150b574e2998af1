-- A call of a place, by what its technician is refused there: where that is nothing, it is the reader's own; else it is that refusal.
use mathlib.Core.Path.{◌≡◌, refl, sym, ap, ◌∙◌}
use mathlib.Core.Bool.{Bool, true, false, cond}
use mathlib.Core.List.{List, []}
use mathlib.Core.Option.{Option, none, some}
use Prim.Native.Nat.{ℕ}
use native.Mathlib.Omega.{arith}
use lib.Dec.{eqb}
use Rattle.refusal.specs.Refusal.{no_such_technician, place_not_held}
use Rattle.reader.specs.declared.Reader.{Reader}
use Rattle.refinement.specs.Runs.{RunCall}
use Rattle.reader_table.specs.declared.TablePlace.{TablePlace}
use Rattle.reader_table.specs.declared.ReaderTable.{ReaderTable}
use Rattle.std.specs.Prelude.{None, Some}
use Rattle.refusal.specs.declared.Refusal.{Refusal}
use Rattle.technician.specs.Technician.{is_technician, denial_by, denial_for}
use Rattle.technician.specs.TechnicianLaws.{denied as number_denied, granted as nothing_denied}
use Rattle.reader_table.specs.Table.{PlaceCalled, place_at, held_by, not_called, lent_to, call_held, call_place_of, close_held, close_place_of}

-- a call that does this to a reader that is held
abbrev asked : ReaderTable → ℕ → ℕ → List ℕ → (Option Reader → PlaceCalled) → PlaceCalled
asked t who i buffer does = cond (is_technician who) (does (held_by t who i)) (not_called t no_such_technician buffer)

module _ (t : ReaderTable) (who i : ℕ) {p : TablePlace} (read : p ≡ place_at t i) where
  module _ (buffer : List ℕ) (does : Option Reader → PlaceCalled) where
    granted : None ≡ denial_for (denial_by who p.owner) → asked t who i buffer does ≡ does (some p.reader)
    unfolding held_by denial_by
    granted e = simp (← read) (go (is_technician who) (eqb p.owner who) (nothing_denied _ e))
      where
        go : (a b : Bool) → cond a (cond b 0 place_not_held) no_such_technician ≡ 0
            → cond a (does (cond b (some p.reader) none)) (not_called t no_such_technician buffer) ≡ does (some p.reader)
        go true true f = refl
        go true false f = absurd (omega (arith, f))
        go false b f = absurd (omega (arith, f))

    denied : {r : Refusal} → Some r ≡ denial_for (denial_by who p.owner) → does none ≡ not_called t place_not_held buffer
        → asked t who i buffer does ≡ not_called t r.0 buffer
    unfolding held_by denial_by
    denied {r} e s = let d = number_denied _ e in simp (← read) (go (is_technician who) (eqb p.owner who) d.0 d.1)
      where
        go : (a b : Bool) → r.0 ≡ cond a (cond b 0 place_not_held) no_such_technician → (cond a (cond b 0 place_not_held) no_such_technician ≡ 0 → ⊥)
            → cond a (does (cond b (some p.reader) none)) (not_called t no_such_technician buffer) ≡ not_called t r.0 buffer
        go true true f z = absurd (z refl)
        go true false f z = s ∙ ap (λ (k : ℕ). not_called t k buffer) (sym f)
        go false b f z = ap (λ (k : ℕ). not_called t k buffer) (sym f)

  pub call_granted : (c : RunCall) → None ≡ denial_for (denial_by who p.owner) → call_place_of t who i c ≡ call_held (some p.reader) t who i c
  unfolding call_place_of
  call_granted c e = granted (lent_to c) (λ o. call_held o t who i c) e

  pub call_denied : (c : RunCall) {r : Refusal} → Some r ≡ denial_for (denial_by who p.owner) → call_place_of t who i c ≡ not_called t r.0 (lent_to c)
  unfolding call_place_of
  call_denied c e = denied (lent_to c) (λ o. call_held o t who i c) e refl

  pub close_granted : None ≡ denial_for (denial_by who p.owner) → close_place_of t who i ≡ close_held (some p.reader) t i
  unfolding close_place_of
  close_granted e = granted [] (λ o. close_held o t i) e

  pub close_denied : {r : Refusal} → Some r ≡ denial_for (denial_by who p.owner) → close_place_of t who i ≡ not_called t r.0 []
  unfolding close_place_of
  close_denied e = denied [] (λ o. close_held o t i) e refl
