-- The reader's own test over lists of calls with runs: it holds of every state that they reach from a fresh reader, and 11 never comes, because
-- such a list does what its calls one by one do, and a run answers 11 only before it takes anything.
use Rattle.std.specs.Prelude.{◌≡◌, Bool, true, false, cond, List, [], ◌∷◌, ℕ, ◌+◌, ◌≤◌, leb, length}
use Rattle.std.proofs.Common.{◌∙◌, ap, sym, subst, true≢false, arith}
use Rattle.refusal.specs.Refusal.{not_a_nibble, bad_state, no_room}
use Rattle.profile.specs.declared.Profile.{Profile}
use Rattle.profile.specs.Profile.{body_length}
use Rattle.stream.specs.declared.Answer.TheVariants as answers
use Rattle.stream.specs.Answers.{refused, answer_for, is_answer}
use Rattle.reader.specs.declared.Reader.{Reader}
use Rattle.reader_head.specs.Head.{passes}
use Rattle.reader.specs.Reader.{fresh_reader, taking}
use Rattle.run.specs.Run.{ran, onward, run_of}
use Rattle.mark_answer.specs.Sound.{refusal_of}
use Rattle.mark_answer.specs.SoundLaws.{at_most_nine}
use Rattle.reader.specs.ReaderLaws.{take_sound}
use Rattle.reader_laws.proofs.Passes.{passes_test, fresh_ok}
use Rattle.reader_laws.specs.Passing.{Ok}
use Rattle.refinement.specs.ReaderCallsLaws.{answered, eleven, calls_ok}
use Rattle.refinement.specs.Runs.{RunCall, run, one, run_result, on_runs, all_one_by_one}
use Rattle.refinement.proofs.RunsLaws.{same_as_feeds}

-- from any reader that passes it, a list with runs leaves one that does
pub runs_ok : (p : Profile) (cs : List RunCall) (r : Reader) → Ok r.head → Ok (on_runs r cs).head
runs_ok p cs r ok = subst (λ (x : Reader). Ok x.head) (sym (same_as_feeds p cs r ok).same_reader) (calls_ok (all_one_by_one r cs) r ok)

pub runs_reached_passes : (p : Profile) (cs : List RunCall) → passes (on_runs (fresh_reader p) cs).head ≡ true
runs_reached_passes p cs = passes_test _ (runs_ok p cs (fresh_reader p) (fresh_ok p)).test

-- a run under way is refused 10 at most
onward_ten : (w : List ℕ) (r : Reader) (i : ℕ) → refusal_of (onward r w i).outcome ≤ not_a_nibble
onward_ten [] r i = omega arith
onward_ten (n ∷ w) r i = go (leb n 15) (is_answer (answer_for (taking r n).outcome)) (onward_ten w (taking r n).reader (i + 1))
  where
    go : (a b : Bool) → refusal_of (onward (taking r n).reader w (i + 1)).outcome ≤ not_a_nibble
        → refusal_of
        (cond a (cond b (ran (taking r n).reader (taking r n).outcome (i + 1)) (onward (taking r n).reader w (i + 1))) (ran r (refused not_a_nibble) i)).outcome
        ≤ not_a_nibble
    go false b h = omega arith
    go true true h = omega (arith, at_most_nine (take_sound r.head r.body n))
    go true false h = h

run_eleven : (r : Reader) (w : List ℕ) (room : ℕ) → (run_of r w room).outcome ≡ refused bad_state → passes r.head ≡ false
unfolding run_of
run_eleven r w room = go (passes r.head) (leb (body_length r.head.profile) room)
  where
    go : (a b : Bool) → (cond a (cond b (onward r w 0) (ran r (refused no_room) 0)) (ran r (refused bad_state) 0)).outcome ≡ refused bad_state → a ≡ false
    go false b e = cc
    go true false e = absurd (let z = ap refusal_of e in omega arith)
    go true true e = absurd (let l = onward_ten w r 0 in let z = ap refusal_of e in omega arith)

call_eleven : (r : Reader) (c : RunCall) → (run_result r c).answer ≡ answers.Refused (record { 0 = bad_state }) → passes r.head ≡ false
call_eleven r (run w buffer) e = run_eleven r w (length buffer) (answered _ bad_state e)
call_eleven r (one c) e = eleven r c e

-- 11 never comes, whatever calls came before, runs among them
pub runs_never_eleven : (p : Profile) (cs : List RunCall) (c : RunCall) → (run_result (on_runs (fresh_reader p) cs) c).answer ≡ answers.Refused (record { 0 = bad_state }) → ⊥
runs_never_eleven p cs c e = true≢false (sym (runs_reached_passes p cs) ∙ call_eleven (on_runs (fresh_reader p) cs) c e)
