-- Every reader that passes its own test is explained over calls with runs too: readers that answer all later single calls alike answer all later
-- runs alike, since a run goes by what its inputs answer when they are fed singly.
use Rattle.std.specs.Prelude.{◌≡◌, refl, Bool, true, false, cond, List, [], ◌∷◌, ℕ, ◌+◌, leb, length}
use Rattle.std.proofs.Common.{◌∙◌, ap, ap₂, sym, subst, true≢false}
use Rattle.refusal.specs.Refusal.{not_a_nibble, no_room}
use Rattle.profile.specs.declared.Profile.{Profile}
use Rattle.profile.specs.Profile.{body_length}
use Rattle.stream.specs.declared.Answer.{Answer}
use Rattle.stream.specs.declared.Answer.TheVariants as answers
use Rattle.stream.specs.Answers.{Outcome, nothing, line, gap, refused, answer_for, buffer_after, is_answer}
use Rattle.stream.specs.Stream.{fresh}
use Rattle.reader.specs.declared.Reader.{Reader}
use Rattle.reader_head.specs.Head.{passes}
use Rattle.reader.specs.Reader.{Took, fresh_reader, taking, feed_of, finish_of}
use Rattle.reader.specs.ReaderLaws.{take_profile}
use Rattle.run.specs.Run.{Ran, ran, onward, run_of}
use Rattle.recovery.specs.Calls.{Call, feed, done, CallResult}
use Rattle.reader_laws.specs.Passing.{Ok}
use Rattle.reader_laws.proofs.Passes.{Feeding, feed_state, feed_nibble, feed_room, feed_taken, feeding, Finishing, finish_state, finish_taken, finishing, passed}
use Rattle.refinement.specs.Refine.{fed_reader}
use Rattle.refinement.specs.RefineLaws.{fresh_follows, fed_follows}
use Rattle.refinement.specs.ReaderCalls.{gives, reader_call}
use Rattle.refinement.specs.ReaderCallsLaws.{calls_ok}
use Rattle.refinement.specs.Runs.{RunCall, run, one, run_result}
use Rattle.refinement.proofs.RunsLaws.{fed_taken, run_starts, run_short}
use Rattle.explained.specs.Explained.{Out, outs, TypedReader}
use Rattle.explained.proofs.ExplainedLaws.{explained}
use Rattle.explained.specs.RunsExplained.{RunOut, run_count, run_outs, RunsExplained}

-- Readers of one profile that pass the test and answer all later single calls alike.

record SameLater (r q : Reader) : Type 0 where
  ok : Ok r.head
  ok_two : Ok q.head
  same_profile : r.head.profile ≡ q.head.profile
  same_outs : (cs : List Call) → outs reader_call r cs ≡ outs reader_call q cs

abbrev first_answer : List Out → Answer
first_answer [] = answers.Nothing
first_answer (o ∷ os) = o.answer

abbrev first_buffer : List Out → List ℕ
first_buffer [] = []
first_buffer (o ∷ os) = o.buffer

abbrev after_first : List Out → List Out
after_first [] = []
after_first (o ∷ os) = os

-- a single call leaves the profile
feed_profile : (r : Reader) (n room : ℕ) → (feed_of r n room).reader.head.profile ≡ r.head.profile
feed_profile r n room = go (feeding r n room)
  where
    go : {t : Took} → Feeding r n room t → t.reader.head.profile ≡ r.head.profile
    go (feed_state e) = refl
    go (feed_nibble e) = refl
    go (feed_room e) = refl
    go (feed_taken e) = take_profile r.head _ n

finish_profile : (r : Reader) → (finish_of r).reader.head.profile ≡ r.head.profile
finish_profile r = go (finishing r)
  where
    go : {t : Took} → Finishing r t → t.reader.head.profile ≡ r.head.profile
    go (finish_state e) = refl
    go finish_taken = refl

call_profile : (r : Reader) (c : Call) → (reader_call r c).reader.head.profile ≡ r.head.profile
call_profile r (feed n buffer) = feed_profile r n (length buffer)
call_profile r done = finish_profile r

-- a call of both answers alike, and leaves them so
record Together (g h : CallResult Reader) : Type 0 where
  later : SameLater g.reader h.reader
  answer : g.answer ≡ h.answer
  buffer : g.buffer ≡ h.buffer

together : (r q : Reader) (c : Call) → SameLater r q → Together (reader_call r c) (reader_call q c)
together r q c s =
    record {
      later =
          record {
            ok = calls_ok (c ∷ []) r s.ok;
            ok_two = calls_ok (c ∷ []) q s.ok_two;
            same_profile = call_profile r c ∙ s.same_profile ∙ sym (call_profile q c);
            same_outs = λ cs. ap after_first (s.same_outs (c ∷ cs));
          };
      answer = ap first_answer (s.same_outs (c ∷ []));
      buffer = ap first_buffer (s.same_outs (c ∷ []));
    }

-- Runs.

abbrev says : Answer → Bool
says answers.Nothing = false
says (answers.Line f) = true
says (answers.Gap g) = true
says (answers.Refused n) = true

says_so : (o : Outcome) → is_answer (answer_for o) ≡ says (answer_for o)
says_so nothing = refl
says_so (line f body) = refl
says_so (gap g) = refl
says_so (refused n) = refl

record RunTogether (buffer : List ℕ) (t u : Ran) : Type 0 where
  later : SameLater t.reader u.reader
  answer : answer_for t.outcome ≡ answer_for u.outcome
  buffers : buffer_after t.outcome buffer ≡ buffer_after u.outcome buffer
  count : t.taken ≡ u.taken

run_together : (buffer w : List ℕ) (r q : Reader) (i : ℕ) → SameLater r q → leb (body_length r.head.profile) (length buffer) ≡ true
    → RunTogether buffer (onward r w i) (onward q w i)
run_together buffer [] r q i s e = record { later = s; answer = refl; buffers = refl; count = refl }
run_together buffer (n ∷ w) r q i s e =
    go (leb n 15) (is_answer (answer_for t.outcome)) (is_answer (answer_for u.outcome)) refl same_test
    (λ l. run_together buffer w t.reader u.reader (i + 1) (both l).later (ap (λ (p : Profile). leb (body_length p) (length buffer)) (take_profile r.head _ n) ∙ e))
  where
    t : Took
    t = taking r n

    u : Took
    u = taking q n

    both : leb n 15 ≡ true → Together (gives t buffer) (gives u buffer)
    both l =
        let k = together r q (feed n buffer) s in
        let et = fed_taken r n (length buffer) s.ok e l in
        let eu = fed_taken q n (length buffer) s.ok_two (ap (λ (p : Profile). leb (body_length p) (length buffer)) (sym s.same_profile) ∙ e) l in
        subst (λ (x : Took). Together (gives x buffer) (gives u buffer)) et (subst (λ (x : Took). Together (gives (feed_of r n (length buffer)) buffer) (gives x buffer)) eu k)

    same_test : leb n 15 ≡ true → is_answer (answer_for t.outcome) ≡ is_answer (answer_for u.outcome)
    same_test l = says_so t.outcome ∙ ap says (both l).answer ∙ sym (says_so u.outcome)

    go : (a b c : Bool) → leb n 15 ≡ a → (leb n 15 ≡ true → b ≡ c)
        → (leb n 15 ≡ true → RunTogether buffer (onward t.reader w (i + 1)) (onward u.reader w (i + 1)))
        → RunTogether buffer
        (cond a (cond b (ran t.reader t.outcome (i + 1)) (onward t.reader w (i + 1))) (ran r (refused not_a_nibble) i))
        (cond a (cond c (ran u.reader u.outcome (i + 1)) (onward u.reader w (i + 1))) (ran q (refused not_a_nibble) i))
    go false b c l f h = record { later = s; answer = refl; buffers = refl; count = refl }
    go true true true l f h = let k = both l in record { later = k.later; answer = k.answer; buffers = k.buffer; count = refl }
    go true false false l f h = h l
    go true true false l f h = absurd (true≢false (f l))
    go true false true l f h = absurd (true≢false (sym (f l)))

-- Any call.

record CallTogether (r q : Reader) (c : RunCall) : Type 0 where
  later : SameLater (run_result r c).reader (run_result q c).reader
  answer : (run_result r c).answer ≡ (run_result q c).answer
  buffer : (run_result r c).buffer ≡ (run_result q c).buffer
  count : run_count r c ≡ run_count q c

call_together : (r q : Reader) (c : RunCall) → SameLater r q → CallTogether r q c
call_together r q (one c) s = let k = together r q c s in record { later = k.later; answer = k.answer; buffer = k.buffer; count = refl }
call_together r q (run w buffer) s = whole (leb (body_length r.head.profile) (length buffer)) refl
  where
    of : (t u : Ran) → run_of r w (length buffer) ≡ t → run_of q w (length buffer) ≡ u → RunTogether buffer t u → CallTogether r q (run w buffer)
    of t u et eu k =
        let m : RunTogether buffer (run_of r w (length buffer)) (run_of q w (length buffer))
        = subst (λ (x : Ran). RunTogether buffer x (run_of q w (length buffer))) (sym et) (subst (λ (x : Ran). RunTogether buffer t x) (sym eu) k) in
        record { later = m.later; answer = m.answer; buffer = m.buffers; count = m.count }

    other : {b : Bool} → leb (body_length r.head.profile) (length buffer) ≡ b → leb (body_length q.head.profile) (length buffer) ≡ b
    other e = ap (λ (p : Profile). leb (body_length p) (length buffer)) (sym s.same_profile) ∙ e

    whole : (b : Bool) → leb (body_length r.head.profile) (length buffer) ≡ b → CallTogether r q (run w buffer)
    whole true e =
        of (onward r w 0) (onward q w 0) (run_starts r w buffer s.ok e).0 (run_starts q w buffer s.ok_two (other e)).0 (run_together buffer w r q 0 s e)
    whole false e =
        of (ran r (refused no_room) 0) (ran q (refused no_room) 0) (run_short r w buffer s.ok e).0 (run_short q w buffer s.ok_two (other e)).0
        (record { later = s; answer = refl; buffers = refl; count = refl })

abbrev out : Answer → List ℕ → ℕ → RunOut
out a b n = record { answer = a; buffer = b; count = n }

runs_same : (cs : List RunCall) (r q : Reader) → SameLater r q → run_outs r cs ≡ run_outs q cs
runs_same [] r q s = refl
runs_same (c ∷ cs) r q s =
    let k = call_together r q c s in
    ap₂ {C = List RunOut} (λ a b. out a b (run_count r c) ∷ run_outs (run_result r c).reader cs) k.answer k.buffer
    ∙ ap₂ {C = List RunOut} (λ n l. out (run_result q c).answer (run_result q c).buffer n ∷ l) k.count
    (runs_same cs (run_result r c).reader (run_result q c).reader k.later)

-- the law
pub runs_explained : (r : Reader) → TypedReader r → passes r.head ≡ true → RunsExplained r
runs_explained r typed e =
    let x = explained r typed e in
    let p = r.head.profile in
    record {
      nibbles = x.nibbles;
      small = x.small;
      same_later = λ room roomy cs.
          let f = fed_follows p room roomy x.small (fresh_reader p) fresh (fresh_follows p) in
          runs_same cs r (fed_reader room (fresh_reader p) x.nibbles)
          (record {
            ok = record { byte = typed.code_byte; test = passed r.head e };
            ok_two = f.ok;
            same_profile = sym f.same.head_same.profile_same;
            same_outs = x.same_later room roomy;
          });
    }
