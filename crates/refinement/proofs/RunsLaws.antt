-- A run is its feeds: the nibbles up to its stop, and the input there, fed one by one with the run's buffer. So lists with runs do what their
-- calls one by one do, and demand 3 of those is demand 3 of the lists.
use Rattle.std.specs.Prelude.{◌≡◌, Bool, true, false, ◌||◌, not, cond, ℕ, suc, ◌+◌, ◌≤◌, length, take, replicate}
use Rattle.std.proofs.Math.Path.{refl, sym}
use Rattle.std.proofs.Common.{◌∙◌, ap, ap₂, subst, add-zero, zero-add, arith}
use mathlib.Core.List.{List, [], ◌∷◌, ◌++◌, append-nil}
use Rattle.std.proofs.Math.Dec.{leb}
use borrow.Author.Tests.{leb-true, ne_eqb}
use Rattle.refusal.specs.Refusal.{not_a_nibble, no_room}
use Rattle.profile.specs.declared.Profile.{Profile}
use Rattle.profile.specs.Profile.{body_length}
use Rattle.stream.specs.Answers.{Outcome, nothing, line, gap, refused, outcome_of, answer_for, buffer_after, is_answer}
use Rattle.reader.specs.declared.Reader.{Reader}
use Rattle.reader.specs.Reader.{Took, fresh_reader, refusing, taking, feed_of}
use Rattle.run.specs.Run.{Ran, ran, stops, stop_place, run_of, onward}
use Rattle.stream.specs.AnswersLaws.{no_answer}
use Rattle.mark_answer.specs.Sound.{refusal_of}
use Rattle.mark_answer.specs.SoundLaws.{at_most_nine}
use Rattle.reader.specs.ReaderLaws.{take_profile, take_sound}
use Rattle.recovery.specs.Calls.{Call, feed, FinishLast, takes, Collector, line_collector, gap_collector, on_run, on_taken, on_collected}
use Rattle.recovery.specs.Calls as calls
use Rattle.recovery.proofs.DemandThree.{taking_by, taking_append, taken_append, run_append, collected_both}
use Rattle.reader_laws.proofs.Passes.{passes_test, fresh_ok, take_ok}
use Rattle.reader_laws.specs.Passing.{Ok}
use Rattle.refinement.specs.Refine.{fed_outcomes}
use Rattle.refinement.specs.ReaderCalls.{reader_call}
use Rattle.refinement.specs.ReaderCallsLaws.{calls_ok, reader_demand_three}
use Rattle.refinement.specs.Runs.{RunCall, run, one, run_result, run_takes, on_runs, runs_taken, run_collects, runs_collected, answer_collector, feeds, starts, one_by_one, all_one_by_one, FinishLastRun, no_call, done_last, feed_first, run_first, SameAsFeeds, RunsMeetDemandThree}

-- One nibble of a run, as a feeding call.

module _ (r : Reader) (n room : ℕ) (ok : Ok r.head) (enough : leb (body_length r.head.profile) room ≡ true) where
  pub fed_taken : leb n 15 ≡ true → feed_of r n room ≡ taking r n
  unfolding feed_of
  fed_taken e = simp (passes_test r.head ok.test, e, enough)

  fed_above : leb n 15 ≡ false → feed_of r n room ≡ refusing r not_a_nibble
  unfolding feed_of
  fed_above e = simp (passes_test r.head ok.test, e)

-- a nibble that is taken is taken by its call, whatever the call answers
pub takes_it : (o : Outcome) → refusal_of o ≤ 9 → (n : ℕ) (w : List ℕ) → takes (answer_for o) n w ≡ n ∷ w
takes_it nothing l n w = refl
takes_it (line f body) l n w = refl
takes_it (gap g) l n w = refl
takes_it (refused k) l n w =
    ap₂ (λ (x y : Bool). cond (x || y) w (n ∷ w)) (ne_eqb k not_a_nibble (λ q. omega arith)) (ne_eqb k no_room (λ q. omega arith))

-- A run's calls.

-- the inputs up to the stop, and the one there
abbrev up_to : Reader → List ℕ → List ℕ
up_to r [] = []
up_to r (n ∷ w) = n ∷ cond (stops r n) [] (up_to (taking r n).reader w)

up_to_is : (w : List ℕ) (r : Reader) → up_to r w ≡ take (suc (stop_place r w)) w
up_to_is [] r = refl
up_to_is (n ∷ w) r = go (stops r n) (up_to_is w (taking r n).reader)
  where
    go : (b : Bool) → up_to (taking r n).reader w ≡ take (suc (stop_place (taking r n).reader w)) w
        → n ∷ cond b [] (up_to (taking r n).reader w) ≡ take (suc (cond b 0 (suc (stop_place (taking r n).reader w)))) (n ∷ w)
    go true h = refl
    go false h = ap (λ l. n ∷ l) h

-- what the calls one by one do, and the run
record Counts {A : Type 0} (k : Collector A) (p : Profile) (r : Reader) (w buffer : List ℕ) (i : ℕ) (cs : List Call) (t : Ran) : Type 0 where
  same_reader : on_run reader_call r cs ≡ t.reader
  same_collected : on_collected reader_call k p r cs ≡ k.fed (outcome_of p (answer_for t.outcome) (buffer_after t.outcome buffer))
  count : ℕ
  counted : t.taken ≡ i + count
  same_taken : on_taken reader_call r cs ≡ take count w

-- nothing brings none
module _ {A : Type 0} (k : Collector A) (of_nothing : k.fed nothing ≡ []) (p : Profile) (buffer : List ℕ) where
  counts : (w : List ℕ) (r : Reader) (i : ℕ) → Ok r.head → leb (body_length r.head.profile) (length buffer) ≡ true
      → Counts k p r w buffer i (feeds buffer (up_to r w)) (onward r w i)
  unfolding stops
  counts [] r i ok room = record { same_reader = refl; same_collected = sym of_nothing; count = 0; counted = sym (add-zero i); same_taken = refl }
  counts (n ∷ w) r i ok room =
      go (leb n 15) (is_answer (answer_for t.outcome)) refl refl λ e.
      let l = leb-true n 15 e in
      counts w t.reader (i + 1) (take_ok r n (omega arith) ok)
      (ap (λ (q : Profile). leb (body_length q) (length buffer)) (take_profile r.head _ n) ∙ room)
    where
      t : Took
      t = taking r n

      rest : List Call
      rest = feeds buffer (up_to t.reader w)

      brings : Outcome → List A
      brings o = k.fed (outcome_of p (answer_for o) (buffer_after o buffer))

      taken : (later : List ℕ) → takes (answer_for t.outcome) n later ≡ n ∷ later
      taken later = takes_it t.outcome (at_most_nine (take_sound r.head r.body n)) n later

      go : (a b : Bool) → leb n 15 ≡ a → is_answer (answer_for t.outcome) ≡ b
          → (leb n 15 ≡ true → Counts k p t.reader w buffer (i + 1) rest (onward t.reader w (i + 1)))
          → Counts k p r (n ∷ w) buffer i (feeds buffer (n ∷ cond (not a || b) [] (up_to t.reader w)))
          (cond a (cond b (ran t.reader t.outcome (i + 1)) (onward t.reader w (i + 1))) (ran r (refused not_a_nibble) i))
      go false b e f h =
          let q = fed_above r n (length buffer) ok room e in
          record {
            same_reader = ap (λ (x : Took). x.reader) q;
            same_collected = ap (λ (x : Took). brings x.outcome ++ []) q ∙ append-nil _;
            count = 0;
            counted = sym (add-zero i);
            same_taken = ap (λ (x : Took). takes (answer_for x.outcome) n []) q;
          }
      go true true e f h =
          let q = fed_taken r n (length buffer) ok room e in
          record {
            same_reader = ap (λ (x : Took). x.reader) q;
            same_collected = ap (λ (x : Took). brings x.outcome ++ []) q ∙ append-nil _;
            count = 1;
            counted = refl;
            same_taken = ap (λ (x : Took). takes (answer_for x.outcome) n []) q ∙ taken [];
          }
      go true false e f h =
          let q = fed_taken r n (length buffer) ok room e in
          let later = h e in
          record {
            same_reader = ap (λ (x : Took). on_run reader_call x.reader rest) q ∙ later.same_reader;
            same_collected =
                ap (λ (x : Took). brings x.outcome ++ on_collected reader_call k p x.reader rest) q
                ∙ ap (λ (xs : List A). xs ++ on_collected reader_call k p t.reader rest) (ap brings (no_answer t.outcome f) ∙ of_nothing)
                ∙ later.same_collected;
            count = suc later.count;
            counted = later.counted ∙ (let z : i + 1 + later.count ≡ i + suc later.count = omega arith in z);
            same_taken =
                ap (λ (x : Took). takes (answer_for x.outcome) n (on_taken reader_call x.reader rest)) q
                ∙ taken (on_taken reader_call t.reader rest)
                ∙ ap (λ (l : List ℕ). n ∷ l) later.same_taken;
          }

-- No nibble before the stop gives an answer.

quietly : (w : List ℕ) (r : Reader) (room : ℕ) → Ok r.head → leb (body_length r.head.profile) room ≡ true
    → fed_outcomes (λ k. room) r (take (stop_place r w) w) ≡ replicate (stop_place r w) nothing
unfolding stops
quietly [] r room ok enough = refl
quietly (n ∷ w) r room ok enough =
    go (leb n 15) (is_answer (answer_for (taking r n).outcome)) refl refl λ e.
    let l = leb-true n 15 e in
    quietly w (taking r n).reader room (take_ok r n (omega arith) ok)
    (ap (λ (q : Profile). leb (body_length q) room) (take_profile r.head _ n) ∙ enough)
  where
    t : Took
    t = taking r n

    p : ℕ
    p = stop_place t.reader w

    fed : leb n 15 ≡ true → feed_of r n room ≡ t
    fed e = fed_taken r n room ok enough e

    go : (a b : Bool) → leb n 15 ≡ a → is_answer (answer_for t.outcome) ≡ b
        → (leb n 15 ≡ true → fed_outcomes (λ k. room) t.reader (take p w) ≡ replicate p nothing)
        → fed_outcomes (λ k. room) r (take (cond (not a || b) 0 (suc p)) (n ∷ w)) ≡ replicate (cond (not a || b) 0 (suc p)) nothing
    go false b e f h = refl
    go true true e f h = refl
    go true false e f h =
        ap (λ (x : Took). x.outcome ∷ fed_outcomes (λ k. room) x.reader (take p w)) (fed e)
        ∙ ap₂ {C = List Outcome} (λ o os. o ∷ os) (no_answer t.outcome f) (h e)

-- fed one by one, each nibble before a run's stop brings nothing
pub quiet_before : (r : Reader) (w buffer : List ℕ) → Ok r.head → leb (body_length r.head.profile) (length buffer) ≡ true
    → fed_outcomes (λ k. length buffer) r (take (stop_place r w) w) ≡ replicate (stop_place r w) nothing
quiet_before r w buffer ok enough = quietly w r (length buffer) ok enough

-- The whole list.

-- one call of the list
record Same {A : Type 0} (k : Collector A) (p : Profile) (r : Reader) (c : RunCall) : Type 0 where
  leaves : (run_result r c).reader ≡ on_run reader_call r (one_by_one r c)
  taken : (later : List ℕ) → run_takes r c later ≡ on_taken reader_call r (one_by_one r c) ++ later
  brought : run_collects k c (outcome_of p (run_result r c).answer (run_result r c).buffer) ≡ on_collected reader_call k p r (one_by_one r c)

-- a run that starts, and one that is refused 12
pub run_starts : (r : Reader) (w buffer : List ℕ) → Ok r.head → leb (body_length r.head.profile) (length buffer) ≡ true
    → (run_of r w (length buffer) ≡ onward r w 0) × (one_by_one r (run w buffer) ≡ feeds buffer (up_to r w))
unfolding run_of
run_starts r w buffer ok room =
    let v = passes_test r.head ok.test in
    (simp (v, room), simp (v, room) (ap (feeds buffer) (sym (up_to_is w r))))

pub run_short : (r : Reader) (w buffer : List ℕ) → Ok r.head → leb (body_length r.head.profile) (length buffer) ≡ false
    → (run_of r w (length buffer) ≡ ran r (refused no_room) 0) × (one_by_one r (run w buffer) ≡ [])
unfolding run_of
run_short r w buffer ok room = let v = passes_test r.head ok.test in (simp (v, room), simp (v, room))

-- nothing brings none, and the 12 of a run that is refused so brings none
module _ {A : Type 0} (k : Collector A) (of_nothing : k.fed nothing ≡ []) (of_short : k.fed (refused no_room) ≡ []) (p : Profile) where
  same_run : (r : Reader) (w buffer : List ℕ) → Ok r.head → Same k p r (run w buffer)
  same_run r w buffer ok = go (leb (body_length r.head.profile) (length buffer)) refl
    where
      brings : Ran → List A
      brings t = k.fed (outcome_of p (answer_for t.outcome) (buffer_after t.outcome buffer))

      go : (b : Bool) → leb (body_length r.head.profile) (length buffer) ≡ b → Same k p r (run w buffer)
      go false e =
          let q = run_short r w buffer ok e in
          record {
            leaves = ap (λ (t : Ran). t.reader) q.0 ∙ ap (on_run reader_call r) (sym q.1);
            taken = λ later. ap (λ (t : Ran). take t.taken w ++ later) q.0 ∙ ap (λ cs. on_taken reader_call r cs ++ later) (sym q.1);
            brought = ap brings q.0 ∙ of_short ∙ ap (on_collected reader_call k p r) (sym q.1);
          }
      go true e =
          let q = run_starts r w buffer ok e in
          let c = counts k of_nothing p buffer w r 0 ok e in
          record {
            leaves = ap (λ (t : Ran). t.reader) q.0 ∙ sym c.same_reader ∙ ap (on_run reader_call r) (sym q.1);
            taken = λ later.
                ap (λ (t : Ran). take t.taken w ++ later) q.0
                ∙ ap (λ (i : ℕ). take i w ++ later) (c.counted ∙ zero-add c.count)
                ∙ ap (λ v. v ++ later) (sym c.same_taken)
                ∙ ap (λ cs. on_taken reader_call r cs ++ later) (sym q.1);
            brought = ap brings q.0 ∙ sym c.same_collected ∙ ap (on_collected reader_call k p r) (sym q.1);
          }

  same_call : (r : Reader) (c : RunCall) → Ok r.head → Same k p r c
  same_call r (run w buffer) ok = same_run r w buffer ok
  same_call r (one c) ok =
      let g = reader_call r c in
      record { leaves = refl; taken = λ later. taking_append (taking_by c g.answer) [] later; brought = sym (append-nil _) }

  -- what a list with runs does, and its calls one by one
  pub record SameList (r : Reader) (cs : List RunCall) : Type 0 where
    pub reader_same : on_runs r cs ≡ on_run reader_call r (all_one_by_one r cs)
    pub taken_same : runs_taken r cs ≡ on_taken reader_call r (all_one_by_one r cs)
    pub collected_same : runs_collected k p r cs ≡ on_collected reader_call k p r (all_one_by_one r cs)

  pub same_list : (cs : List RunCall) (r : Reader) → Ok r.head → SameList r cs
  same_list [] r ok = record { reader_same = refl; taken_same = refl; collected_same = refl }
  same_list (c ∷ cs) r ok =
      let s = same_call r c ok in
      let ds = one_by_one r c in
      let r' = (run_result r c).reader in
      let later = same_list cs r' (subst (λ (x : Reader). Ok x.head) (sym s.leaves) (calls_ok ds r ok)) in
      let es = all_one_by_one r' cs in
      record {
        reader_same = later.reader_same ∙ ap (λ (x : Reader). on_run reader_call x es) s.leaves ∙ sym (run_append reader_call r ds es);
        taken_same =
            s.taken (runs_taken r' cs)
            ∙ ap (λ v. on_taken reader_call r ds ++ v) (later.taken_same ∙ ap (λ (x : Reader). on_taken reader_call x es) s.leaves)
            ∙ sym (taken_append reader_call r ds es);
        collected_same =
            ap₂ (λ (v w : List A). v ++ w) s.brought (later.collected_same ∙ ap (λ (x : Reader). on_collected reader_call k p x es) s.leaves)
            ∙ sym (collected_both reader_call k p r ds es);
      }

-- a list with runs does what its calls one by one do
pub same_as_feeds : (p : Profile) (cs : List RunCall) (r : Reader) → Ok r.head → SameAsFeeds p r cs
same_as_feeds p cs r ok =
    let answers = same_list answer_collector refl refl p cs r ok in
    record {
      same_reader = answers.reader_same;
      same_taken = answers.taken_same;
      same_answers = answers.collected_same;
      same_lines = (same_list line_collector refl refl p cs r ok).collected_same;
      same_gaps = (same_list gap_collector refl refl p cs r ok).collected_same;
    }

-- at most one finish, as the last call

feeds_first : (buffer w : List ℕ) (cs : List Call) → FinishLast cs → FinishLast (feeds buffer w ++ cs)
feeds_first buffer [] cs h = h
feeds_first buffer (n ∷ w) cs h = calls.feed_first (feeds_first buffer w cs h)

pub finish_last : {cs : List RunCall} → FinishLastRun cs → (r : Reader) → FinishLast (all_one_by_one r cs)
finish_last no_call r = calls.no_call
finish_last done_last r = calls.done_last
finish_last (feed_first {n} {buffer} {cs} h) r = calls.feed_first (finish_last h (reader_call r (feed n buffer)).reader)
finish_last (run_first {w} {buffer} {cs} h) r = go (starts r (length buffer)) (finish_last h (run_result r (run w buffer)).reader)
  where
    go : (b : Bool) {ds : List Call} → FinishLast ds → FinishLast (cond b (feeds buffer (take (suc (stop_place r w)) w)) [] ++ ds)
    go true {ds} k = feeds_first buffer (take (suc (stop_place r w)) w) ds k
    go false k = k

-- demand 3 over lists with runs, of the reader that runs
pub runs_demand_three : (p : Profile) → RunsMeetDemandThree p (fresh_reader p)
runs_demand_three p ss good i j l m new cs last taken =
    let k = same_as_feeds p cs (fresh_reader p) (fresh_ok p) in
    (k, reader_demand_three p ss good i j l m new (all_one_by_one (fresh_reader p) cs) (finish_last last (fresh_reader p)) (sym k.same_taken ∙ taken))
