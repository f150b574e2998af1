-- The reader that runs, by its calls: they answer as the meaning's do, its own test never fails, a refused call changes nothing, and demand 3.
use Rattle.std.specs.Prelude.{◌≡◌, refl, Bool, true, false, cond, List, [], ◌∷◌, ℕ, ◌≤◌, leb, length}
use Rattle.std.proofs.Common.{◌∙◌, ap, sym, subst, true≢false, arith, leb-true}
use Rattle.refusal.specs.Refusal.{not_a_nibble, bad_state, no_room}
use Rattle.profile.specs.declared.Profile.{Profile}
use Rattle.profile.specs.declared.Profile.TheVariants.{VV5404, VV5300}
use Rattle.profile.specs.Profile.{profile_numbered, profile_number, body_length}
use Rattle.stream.specs.declared.Answer.TheVariants as answers
use Rattle.stream.specs.Answers.{Outcome, nothing, line, gap, refused, outcome_of, answer_for, buffer_after}
use Rattle.stream.specs.Stream.{State}
use Rattle.reader.specs.declared.Reader.{Reader}
use Rattle.reader_head.specs.Head.{passes}
use Rattle.reader.specs.Reader.{fresh_reader, refusing, new_of, taking, feed_of}
use Rattle.recovery.specs.Calls.{Call, feed, done, CallResult, on_run, MeetsDemandThree, turned_away, fed, meaning_call}
use Rattle.recovery.proofs.DemandThree.{carried}
use Rattle.reader.specs.ReaderLaws.{legible_feed}
use Rattle.reader_laws.proofs.Passes.{passes_test, fresh_ok, feed_ok, finish_ok, feed_refused, finish_refused, feed_eleven, finish_eleven}
use Rattle.reader_laws.specs.Passing.{Ok}
use Rattle.refinement.specs.Refine.{Follows}
use Rattle.refinement.specs.RefineLaws.{fresh_follows, feed_tests, taking_steps, finish_steps}
use Rattle.refinement.specs.ReaderCalls.{gives, reader_call, lent}

-- creation
pub new_fresh : (p : Profile) → new_of (profile_number p) ≡ record { reader = fresh_reader p; outcome = nothing }
unfolding profile_numbered
new_fresh VV5404 = refl
new_fresh VV5300 = refl

-- The reader's own test: it holds of every state that calls reach from a fresh reader, and 11 never comes.

call_ok : (r : Reader) (c : Call) → Ok r.head → Ok (reader_call r c).reader.head
call_ok r (feed n buffer) h = feed_ok r n (length buffer) h
call_ok r done h = finish_ok r h

-- from any reader that passes it
pub calls_ok : (cs : List Call) (r : Reader) → Ok r.head → Ok (on_run reader_call r cs).head
calls_ok [] r h = h
calls_ok (c ∷ cs) r h = calls_ok cs (reader_call r c).reader (call_ok r c h)

pub reached_passes : (p : Profile) (cs : List Call) → passes (on_run reader_call (fresh_reader p) cs).head ≡ true
reached_passes p cs = passes_test _ (calls_ok cs (fresh_reader p) (fresh_ok p)).test

pub answered : (o : Outcome) (k : ℕ) → answer_for o ≡ answers.Refused (record { 0 = k }) → o ≡ refused k
answered nothing k e = cc
answered (line f body) k e = cc
answered (gap g) k e = cc
answered (refused n) k e = ap (λ a. outcome_of VV5404 a []) e

pub eleven : (r : Reader) (c : Call) → (reader_call r c).answer ≡ answers.Refused (record { 0 = bad_state }) → passes r.head ≡ false
eleven r (feed n buffer) e = feed_eleven r n (length buffer) (answered _ bad_state e)
eleven r done e = finish_eleven r (answered _ bad_state e)

pub never_eleven : (p : Profile) (cs : List Call) (c : Call) → (reader_call (on_run reader_call (fresh_reader p) cs) c).answer ≡ answers.Refused (record { 0 = bad_state }) → ⊥
never_eleven p cs c e = true≢false (sym (reached_passes p cs) ∙ eleven (on_run reader_call (fresh_reader p) cs) c e)

-- A refusal 10 or above leaves reader and buffer as before: in any state.

pub refused_call : (r : Reader) (c : Call) (k : ℕ) → not_a_nibble ≤ k → (reader_call r c).answer ≡ answers.Refused (record { 0 = k })
    → reader_call r c ≡ record { reader = r; answer = answers.Refused (record { 0 = k }); buffer = lent c }
refused_call r (feed n buffer) k l e = ap (λ t. gives t buffer) (feed_refused r n (length buffer) k l (answered _ k e))
refused_call r done k l e =
    ap {B = CallResult Reader} (λ t. record { reader = t.reader; answer = answer_for t.outcome; buffer = [] })
    (finish_refused r k l (answered _ k e))

-- The answer and the lent buffer say all of the outcome.

pub feed_told : (r : Reader) (n : ℕ) (buffer : List ℕ)
    → outcome_of r.head.profile (reader_call r (feed n buffer)).answer (reader_call r (feed n buffer)).buffer ≡ (feed_of r n (length buffer)).outcome
feed_told r n buffer = legible_feed r n (length buffer) buffer

-- The calls answer as the meaning's.

-- a call of the reader and one of the meaning give the same
pub record Alike (p : Profile) (g : CallResult Reader) (c : CallResult State) : Type 0 where
  pub follows : Follows p g.reader c.reader
  pub same_answer : g.answer ≡ c.answer
  pub same_buffer : g.buffer ≡ c.buffer

pub alike : (p : Profile) (r : Reader) (s : State) (c : Call) → Follows p r s → Alike p (reader_call r c) (meaning_call p s c)
alike p r s done f =
    let q = finish_steps p r s f in
    record { follows = q.follows; same_answer = ap answer_for q.outcome_same; same_buffer = refl }
alike p r s (feed n buffer) f =
    subst (λ t. Alike p (gives t buffer) (meaning_call p s (feed n buffer))) (sym (feed_tests f n (length buffer)))
    (go (leb n 15) (leb (body_length p) (length buffer)) refl)
  where
    go : (a b : Bool) → leb n 15 ≡ a
        → Alike p
        (gives (cond a (cond b (taking r n) (refusing r no_room)) (refusing r not_a_nibble)) buffer)
        (cond a (cond b (fed p s n buffer) (turned_away s no_room buffer)) (turned_away s not_a_nibble buffer))
    go false b e = record { follows = f; same_answer = refl; same_buffer = refl }
    go true false e = record { follows = f; same_answer = refl; same_buffer = refl }
    go true true e =
        let q = taking_steps p r s n (let k = leb-true n 15 e in omega arith) f in
        record { follows = q.follows; same_answer = ap answer_for q.outcome_same; same_buffer = ap (λ o. buffer_after o buffer) q.outcome_same }

-- demand 3 of the reader that runs, from a fresh reader of the clean stream's profile
pub reader_demand_three : (p : Profile) → MeetsDemandThree reader_call p (fresh_reader p)
reader_demand_three p =
    carried reader_call p (Follows p)
    (λ r s c f. (alike p r s c f).follows) (λ r s c f. (alike p r s c f).same_answer) (λ r s c f. (alike p r s c f).same_buffer)
    (fresh_reader p) (fresh_follows p)
