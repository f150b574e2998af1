-- A run that takes nothing leaves the reader as it was; it rests on where a run stops (RunLaws).
use Rattle.std.specs.Prelude.{◌≡◌, refl, Bool, true, false, cond, List, [], ◌∷◌, ℕ, ◌+◌, leb, take, drop}
use Rattle.std.proofs.Common.{sym, ap, ◌∙◌, arith}
use Rattle.refusal.specs.Refusal.{not_a_nibble, bad_state, no_room}
use Rattle.profile.specs.Profile.{body_length}
use Rattle.stream.specs.Answers.{refused}
use Rattle.reader.specs.declared.Reader.{Reader}
use Rattle.reader_head.specs.Head.{passes}
use Rattle.reader.specs.Reader.{taking}
use Rattle.run.specs.Run.{Ran, ran, onward, stop_place, run_of}
use Rattle.run.specs.Stopping.{taking_all, stopping}
use Rattle.run.specs.RunLaws.{up_to_stop}

-- A run that takes nothing leaves the reader as it was.

none_before : (r : Reader) (w : List ℕ) (i : ℕ) → (stopping r w i).taken ≡ 0 → (i ≡ 0) × ((stopping r w i).reader ≡ r)
none_before r [] i e = (e, refl)
none_before r (n ∷ w) i e = go (leb n 15) e
  where
    go : (b : Bool) → (cond b (ran (taking r n).reader (taking r n).outcome (i + 1)) (ran r (refused not_a_nibble) i)).taken ≡ 0
        → (i ≡ 0) × ((cond b (ran (taking r n).reader (taking r n).outcome (i + 1)) (ran r (refused not_a_nibble) i)).reader ≡ r)
    go true e = absurd (omega arith)
    go false e = (e, refl)

pub none_taken : (r : Reader) (w : List ℕ) (room : ℕ) → (run_of r w room).taken ≡ 0 → (run_of r w room).reader ≡ r
unfolding run_of
none_taken r w room = go (passes r.head) (leb (body_length r.head.profile) room)
  where
    up : (onward r w 0).taken ≡ 0 → (onward r w 0).reader ≡ r
    up e =
        let p = stop_place r w in
        let q = up_to_stop r w in
        let k = none_before (taking_all r (take p w)) (drop p w) p (sym (ap (λ (t : Ran). t.taken) q) ∙ e) in
        ap (λ (t : Ran). t.reader) q ∙ k.1 ∙ ap (λ j. taking_all r (take j w)) k.0

    go : (a b : Bool) → (cond a (cond b (onward r w 0) (ran r (refused no_room) 0)) (ran r (refused bad_state) 0)).taken ≡ 0
        → (cond a (cond b (onward r w 0) (ran r (refused no_room) 0)) (ran r (refused bad_state) 0)).reader ≡ r
    go true true e = up e
    go true false e = refl
    go false b e = refl
