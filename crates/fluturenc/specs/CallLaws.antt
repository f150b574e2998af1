-- Laws of the exported calls: a state holds a reader from its opening on, and each call does to it what the reader's own call does; and
-- judging by number is judging.
use Rattle.std.specs.Prelude.{◌≡◌, refl, Bool, true, false, cond, List, [], ◌∷◌, ℕ, ◌+◌, ◌-◌, ◌/◌, ◌≤◌, ◌<◌, eqb, leb, length}
use Rattle.std.proofs.Common.{sym, ap, subst, ◌∙◌, arith, leb-true, eqb-true, lt-ltb, le-leb}
use Rattle.std.proofs.lemmas.List.{length-replicate}
use Rattle.refusal.specs.Refusal.{not_a_nibble, bad_state, no_room}
use Rattle.exported_call.specs.LentCall.{Called}
use Rattle.profile.specs.declared.Profile.{Profile}
use Rattle.profile.specs.declared.Profile.TheVariants.{VV5404, VV5300}
use Rattle.profile.specs.Profile.{profile_number, profile_numbered, body_length, longest}
use Rattle.stream.specs.Answers.{refused, answer_for, is_answer}
use Rattle.mark_text.specs.MarkText.{body_at}
use Rattle.reader.specs.declared.Reader.{Reader}
use Rattle.reader_head.specs.Head.{top_place, passes, leave_body}
use Rattle.reader.specs.Reader.{Took, fresh_reader, taking, finish_of}
use Rattle.run.specs.Run.{Ran, ran, run_of, onward}
use Rattle.run.proofs.NothingTaken.{none_taken}
use Rattle.reader_laws.proofs.Passes.{passes_test, Finishing, finish_state, finish_taken, finishing, fresh_ok, take_ok, finish_ok}
use Rattle.reader_laws.specs.Passing.{Ok}
use Rattle.reader_laws.specs.Bodies.{length_body}
use Rattle.frame_judge.specs.declared.Judge.{Judge}
use Rattle.frame_judge.specs.Frame.{judge_of}
use Rattle.frame_judge.specs.Frame as frame
use Rattle.exported_numbers.specs.CallNumbers.{answer_number, judge_number, ruling_number}
use Rattle.exported_numbers.specs.CallNumbersLaws.{judge_small, judge_back}
use Rattle.exported_state.specs.State.{state_length, stored, holds_reader, reader_in}
use Rattle.exported_state.specs.StateLaws.{reader_back, stored_length, stored_holds}
use Rattle.fluturenc.specs.Calls.{FeedCalled, open_call, feed_call, feed_ran, finish_call, judge_call}

-- Readers that calls reach: the code is a byte, the test passes, and the body has its length.

-- a reader as calls leave one
pub record WholeState (r : Reader) : Type 0 where
  pub ok : Ok r.head
  pub full : length r.body ≡ longest

fresh_whole : (p : Profile) → WholeState (fresh_reader p)
fresh_whole p = record { ok = fresh_ok p; full = length-replicate {A = ℕ} longest 0 }

leave_full : (r : Reader) → length (leave_body r.head r.body) ≡ length r.body
unfolding leave_body
leave_full r =
    let h = r.head in
    go (leb 8 h.count) (body_at (h.count - 8) (h.window / top_place) r.body) (length_body (h.count - 8) (h.window / top_place) r.body)
  where
    go : (b : Bool) (w : List ℕ) → length w ≡ length r.body → length (cond b w r.body) ≡ length r.body
    go true w e = e
    go false w e = refl

take_whole : (r : Reader) (n : ℕ) → n < 16 → WholeState r → WholeState (taking r n).reader
take_whole r n l h = record { ok = take_ok r n l h.ok; full = leave_full r ∙ h.full }

onward_whole : (w : List ℕ) (r : Reader) (i : ℕ) → WholeState r → WholeState (onward r w i).reader
onward_whole [] r i h = h
onward_whole (n ∷ w) r i h = go (leb n 15) (is_answer (answer_for (taking r n).outcome)) refl (onward_whole w (taking r n).reader (i + 1))
  where
    go : (a b : Bool) → leb n 15 ≡ a → (WholeState (taking r n).reader → WholeState (onward (taking r n).reader w (i + 1)).reader)
        → WholeState
        (cond a (cond b (ran (taking r n).reader (taking r n).outcome (i + 1)) (onward (taking r n).reader w (i + 1)))
        (ran r (refused not_a_nibble) i)).reader
    go false b e f = h
    go true true e f = take_whole r n (let l = leb-true n 15 e in omega arith) h
    go true false e f = f (take_whole r n (let l = leb-true n 15 e in omega arith) h)

run_whole : (r : Reader) (w : List ℕ) (room : ℕ) → WholeState r → WholeState (run_of r w room).reader
unfolding run_of
run_whole r w room h = go (passes r.head) (leb (body_length r.head.profile) room)
  where
    go : (a b : Bool) → WholeState (cond a (cond b (onward r w 0) (ran r (refused no_room) 0)) (ran r (refused bad_state) 0)).reader
    go false b = h
    go true false = h
    go true true = onward_whole w r 0 h

finish_whole : (r : Reader) → WholeState r → WholeState (finish_of r).reader
finish_whole r h = record { ok = finish_ok r h.ok; full = go (finishing r) }
  where
    go : {t : Took} → Finishing r t → length t.reader.body ≡ longest
    go (finish_state e) = h.full
    go finish_taken = length-replicate {A = ℕ} longest 0

-- Calls on a state.

-- a state that holds a reader, and may be given to any call
pub record HoldsReader (s : List ℕ) (r : Reader) : Type 0 where
  pub whole : WholeState r
  pub room : state_length ≤ length s
  pub held : holds_reader s ≡ true
  pub read : reader_in s ≡ r

stored_held : (r : Reader) (s : List ℕ) → WholeState r → state_length ≤ length s → HoldsReader (stored r s) r
stored_held r s w h =
    record {
      whole = w;
      room = omega (arith, stored_length r s w.full h);
      held = stored_holds r s w.full h (passes_test r.head w.ok.test);
      read = reader_back r s w.full;
    }

open_call_lem : (p : Profile) (s : List ℕ) → state_length ≤ length s → open_call (profile_number p) s ≡ record { answer = 0; state = stored (fresh_reader p) s }
unfolding open_call profile_numbered
open_call_lem VV5404 s h = simp (le-leb state_length (length s) h)
open_call_lem VV5300 s h = simp (le-leb state_length (length s) h)

-- what a call does to a state that holds a reader

module _ (s : List ℕ) (r : Reader) (held : holds_reader s ≡ true) (read : reader_in s ≡ r) where
  pub finish_call_lem : finish_call s ≡ record { answer = answer_number (answer_for (finish_of r).outcome); state = stored (finish_of r).reader s }
  unfolding finish_call
  finish_call_lem =
      simp held (ap (λ (x : Reader). record { answer = answer_number (answer_for (finish_of x).outcome); state = stored (finish_of x).reader s }) read)

  feed_call_lem : (w line : List ℕ) → feed_call s w line ≡ feed_ran (run_of r w (length line)) s line
  unfolding feed_call
  feed_call_lem w line = simp held (ap (λ (x : Reader). feed_ran (run_of x w (length line)) s line) read)

-- opening leaves a fresh reader
pub opens : (p : Profile) (s : List ℕ) → state_length ≤ length s
    → ((open_call (profile_number p) s).answer ≡ 0) × HoldsReader (open_call (profile_number p) s).state (fresh_reader p)
opens p s h =
    subst (λ (c : Called). (c.answer ≡ 0) × HoldsReader c.state (fresh_reader p)) (sym (open_call_lem p s h)) (refl, stored_held (fresh_reader p) s (fresh_whole p) h)

-- feeding answers and leaves what the reader's run does
pub feeds : (s w line : List ℕ) (r : Reader) → HoldsReader s r
    → (feed_call s w line ≡ feed_ran (run_of r w (length line)) s line) × HoldsReader (feed_call s w line).state (run_of r w (length line)).reader
feeds s w line r h = (fed, subst (λ (c : FeedCalled). HoldsReader c.state t.reader) (sym fed) (go (eqb t.taken 0) refl))
  where
    t : Ran
    t = run_of r w (length line)

    fed : feed_call s w line ≡ feed_ran t s line
    fed = feed_call_lem s r h.held h.read w line

    go : (b : Bool) → eqb t.taken 0 ≡ b → HoldsReader (cond b s (stored t.reader s)) t.reader
    go true e = subst (HoldsReader s) (sym (none_taken r w (length line) (eqb-true _ _ e))) h
    go false e = stored_held t.reader s (run_whole r w (length line) h.whole) h.room

-- finish answers and leaves what the reader's finish does
pub finishes : (s : List ℕ) (r : Reader) → HoldsReader s r
    → ((finish_call s).answer ≡ answer_number (answer_for (finish_of r).outcome)) × HoldsReader (finish_call s).state (finish_of r).reader
finishes s r h =
    let done = finish_call_lem s r h.held h.read in
    (ap (λ (c : Called). c.answer) done, subst (λ (c : Called). HoldsReader c.state (finish_of r).reader) (sym done) (stored_held (finish_of r).reader s (finish_whole r h.whole) h.room))

-- Judging.

-- judging by number is judging
pub judges : (j : Judge) (kind number : ℕ) → frame.passes VV5404 j ≡ true
    → judge_call (judge_number j) kind number
    ≡ record { answer = ruling_number (judge_of VV5404 j kind number).ruling; judge = judge_number (judge_of VV5404 j kind number).judge }
unfolding judge_call
judges j kind number h = simp (lt-ltb (judge_number j) 0x30000 (judge_small j h), judge_back j h)
