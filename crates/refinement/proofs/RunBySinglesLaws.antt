-- A run does what its inputs fed singly do, and nothing else, whatever the reader, the inputs and the buffer: each step of a run is a single feed, as
-- long as the reader passes its test, and it passes it after every nibble.
use Rattle.std.specs.Prelude.{◌≡◌, refl, Bool, true, false, cond, List, [], ◌∷◌, ◌++◌, ℕ, suc, ◌+◌, ◌≤◌, ◌<◌, leb, length}
use Rattle.std.proofs.Common.{◌∙◌, ap, sym, subst, true≢false, append-nil, add-zero, zero-add, arith, leb-true, leb-false, le-leb}
use Rattle.std.proofs.lemmas.Bool.{lt-leb}
use Rattle.refusal.specs.Refusal.{not_a_nibble, bad_state, no_room}
use Rattle.profile.specs.declared.Profile.{Profile}
use Rattle.profile.specs.Profile.{body_length}
use Rattle.stream.specs.declared.Answer.TheVariants as answers
use Rattle.stream.specs.Answers.{Outcome, nothing, line, gap, refused, answer_for, buffer_after, is_answer}
use Rattle.reader.specs.declared.Reader.{Reader}
use Rattle.reader_head.specs.Head.{passes}
use Rattle.reader.specs.Reader.{Took, taking}
use Rattle.reader.specs.ReaderLaws.{take_profile}
use Rattle.run.specs.Run.{Ran, ran, onward, run_of}
use Rattle.stream.specs.AnswersLaws.{no_answer}
use Rattle.reader_laws.proofs.Passes.{passed, passes_test, take_ok}
use Rattle.reader_laws.specs.Passing.{Byte, Ok}
use Rattle.recovery.specs.Calls.{feed, CallResult}
use Rattle.refinement.specs.ReaderCalls.{gives, reader_call}
use Rattle.refinement.specs.Runs.{run, run_result}
use Rattle.refinement.proofs.RunsLaws.{fed_taken}
use Rattle.refinement.specs.RunBySingles.{untouched, Quiet, no_single, and_single, Begins, RunDoes, bad_state_lem, no_room_lem, to_its_end, to_an_answer, to_no_nibble, RunIs}

-- what a run gives back, of what it does and the buffer lent to it
abbrev gave_back : Ran → List ℕ → CallResult Reader
gave_back t buffer = record { reader = t.reader; answer = answer_for t.outcome; buffer = buffer_after t.outcome buffer }

-- one single in front
more : {r next : Reader} {buffer : List ℕ} {n : ℕ} {w : List ℕ} {c : CallResult Reader} {k : ℕ} → Begins r buffer → leb n 15 ≡ true
    → reader_call r (feed n buffer) ≡ untouched next answers.Nothing buffer → RunDoes next buffer w c k → Begins next buffer → RunDoes r buffer (n ∷ w) c (suc k)
more {n = n} b l e (bad_state_lem f) h = absurd (true≢false (sym h.passing ∙ f))
more {n = n} b l e (no_room_lem f g) h = absurd (let m = h.room in omega arith)
more {n = n} b l e (to_its_end k q) h = to_its_end b (and_single (leb-true n 15 l) e q)
more {n = n} b l e (to_an_answer u v x k q m a) h = to_an_answer (n ∷ u) v x b (and_single (leb-true n 15 l) e q) m a
more {n = n} b l e (to_no_nibble u v x k q m) h = to_no_nibble (n ∷ u) v x b (and_single (leb-true n 15 l) e q) m

answers_something : (o : Outcome) → is_answer (answer_for o) ≡ true → answer_for o ≡ answers.Nothing → ⊥
answers_something nothing e f = true≢false (sym e)
answers_something (line g body) e f = let z : ◌≡◌ {A = ℕ} 0 1 = cc in omega arith
answers_something (gap g) e f = let z : ◌≡◌ {A = ℕ} 0 1 = cc in omega arith
answers_something (refused n) e f = let z : ◌≡◌ {A = ℕ} 0 1 = cc in omega arith

-- a run under way, of which i nibbles were taken before
record UnderWay (r : Reader) (buffer w : List ℕ) (i : ℕ) (t : Ran) : Type 0 where
  count : ℕ
  counted : t.taken ≡ i + count
  does : RunDoes r buffer w (gave_back t buffer) count

under_way : (buffer w : List ℕ) (r : Reader) (i : ℕ) → Ok r.head → Begins r buffer → UnderWay r buffer w i (onward r w i)
under_way buffer [] r i ok b = record { count = 0; counted = sym (add-zero i); does = to_its_end b no_single }
under_way buffer (n ∷ w) r i ok b =
    go (leb n 15) (is_answer (answer_for t.outcome)) refl refl (λ l. under_way buffer w t.reader (i + 1) (next_ok l) (next_begins l))
  where
    t : Took
    t = taking r n

    next_ok : leb n 15 ≡ true → Ok t.reader.head
    next_ok l = let k = leb-true n 15 l in take_ok r n (omega arith) ok

    next_begins : leb n 15 ≡ true → Begins t.reader buffer
    next_begins l =
        record {
          passing = passes_test t.reader.head (next_ok l).test;
          room = subst (λ (p : Profile). body_length p ≤ length buffer) (sym (take_profile r.head _ n)) b.room;
        }

    single : leb n 15 ≡ true → reader_call r (feed n buffer) ≡ gives t buffer
    single l = ap (λ (x : Took). gives x buffer) (fed_taken r n (length buffer) ok (le-leb _ _ b.room) l)

    go : (a d : Bool) → leb n 15 ≡ a → is_answer (answer_for t.outcome) ≡ d
        → (leb n 15 ≡ true → UnderWay t.reader buffer w (i + 1) (onward t.reader w (i + 1)))
        → UnderWay r buffer (n ∷ w) i (cond a (cond d (ran t.reader t.outcome (i + 1)) (onward t.reader w (i + 1))) (ran r (refused not_a_nibble) i))
    go false d l e h = record { count = 0; counted = sym (add-zero i); does = to_no_nibble [] w n b no_single (leb-false n 15 l) }
    go true true l e h =
        record {
          count = 1;
          counted = refl;
          does =
              subst (λ (c : CallResult Reader). RunDoes r buffer (n ∷ w) c 1) (single l)
              (to_an_answer [] w n b no_single (leb-true n 15 l) (λ f. answers_something t.outcome e (sym (ap (λ (c : CallResult Reader). c.answer) (single l)) ∙ f)));
        }
    go true false l e h =
        let k = h l in
        record {
          count = suc k.count;
          counted = k.counted ∙ (let z : i + 1 + k.count ≡ i + suc k.count = omega arith in z);
          does =
              more b l (single l ∙ ap (λ (o : Outcome). untouched t.reader (answer_for o) (buffer_after o buffer)) (no_answer t.outcome e)) k.does (next_begins l);
        }

-- the law: of every reader whose mark has a byte as its code, as every reader's has, every run and every buffer
pub run_by_singles : (r : Reader) (w buffer : List ℕ) → Byte r.head.at
    → RunDoes r buffer w (run_result r (run w buffer)) (run_of r w (length buffer)).taken
unfolding run_of
run_by_singles r w buffer byte = go (passes r.head) (leb (body_length r.head.profile) (length buffer)) refl refl
  where
    go : (a b : Bool) → passes r.head ≡ a → leb (body_length r.head.profile) (length buffer) ≡ b
        → (let t : Ran = cond a (cond b (onward r w 0) (ran r (refused no_room) 0)) (ran r (refused bad_state) 0) in RunDoes r buffer w (gave_back t buffer) t.taken)
    go false b e f = bad_state_lem e
    go true false e f = no_room_lem e (leb-false _ _ f)
    go true true e f =
        let k = under_way buffer w r 0 (record { byte = byte; test = passed r.head e }) (record { passing = e; room = leb-true _ _ f }) in
        subst (RunDoes r buffer w (gave_back (onward r w 0) buffer)) (sym (k.counted ∙ zero-add k.count)) k.does

-- And there is no other.

says_nothing : (o : Outcome) → answer_for o ≡ answers.Nothing → is_answer (answer_for o) ≡ false
says_nothing nothing e = refl
says_nothing (line f body) e = let z : ◌≡◌ {A = ℕ} 0 1 = cc in absurd (omega arith)
says_nothing (gap g) e = let z : ◌≡◌ {A = ℕ} 0 1 = cc in absurd (omega arith)
says_nothing (refused n) e = let z : ◌≡◌ {A = ℕ} 0 1 = cc in absurd (omega arith)

says_some : (o : Outcome) → (answer_for o ≡ answers.Nothing → ⊥) → is_answer (answer_for o) ≡ true
says_some nothing h = absurd (h refl)
says_some (line f body) h = refl
says_some (gap g) h = refl
says_some (refused n) h = refl

-- a run goes on past singles that give no answer
record PastQuiet (buffer : List ℕ) (r : Reader) (before : List ℕ) (there : Reader) : Type 0 where
  ok : Ok there.head
  room : body_length there.head.profile ≤ length buffer
  goes : (w : List ℕ) (i : ℕ) → onward r (before ++ w) i ≡ onward there w (i + length before)

past_quiet : (buffer : List ℕ) {r there : Reader} {before : List ℕ} → Quiet buffer r before there → Ok r.head → body_length r.head.profile ≤ length buffer
    → PastQuiet buffer r before there
past_quiet buffer no_single ok room = record { ok = ok; room = room; goes = λ w i. ap (onward _ w) (sym (add-zero i)) }
past_quiet buffer (and_single {r} {next} {end} {n} {w = later} l e q) ok room =
    let t = taking r n in
    let same = sym (ap (λ (x : Took). gives x buffer) (fed_taken r n (length buffer) ok (le-leb _ _ room) (le-leb n 15 l))) ∙ e in
    let to : t.reader ≡ next = ap (λ (c : CallResult Reader). c.reader) same in
    let quiet : is_answer (answer_for t.outcome) ≡ false = says_nothing t.outcome (ap (λ (c : CallResult Reader). c.answer) same) in
    let k = past_quiet buffer q (subst (λ (x : Reader). Ok x.head) to (take_ok r n (omega arith) ok))
    (subst (λ (x : Reader). body_length x.head.profile ≤ length buffer) to (subst (λ (p : Profile). body_length p ≤ length buffer) (sym (take_profile r.head _ n)) room)) in
    record {
      ok = k.ok;
      room = k.room;
      goes = λ w i.
          simp (le-leb n 15 l, quiet)
          (ap (λ (x : Reader). onward x (later ++ w) (i + 1)) to
          ∙ k.goes w (i + 1)
          ∙ ap (onward end w) (let z : i + 1 + length later ≡ i + suc (length later) = omega arith in z));
    }

run_is : (r : Reader) (w buffer : List ℕ) (t : Ran) {c : CallResult Reader} {k : ℕ} → run_of r w (length buffer) ≡ t → gave_back t buffer ≡ c → t.taken ≡ k
    → RunIs r w buffer c k
run_is r w buffer t e f g = (ap (λ (x : Ran). gave_back x buffer) e ∙ f, ap (λ (x : Ran). x.taken) e ∙ g)

refused_eleven : (r : Reader) (w : List ℕ) (room : ℕ) → passes r.head ≡ false → run_of r w room ≡ ran r (refused bad_state) 0
unfolding run_of
refused_eleven r w room e = simp e

refused_twelve : (r : Reader) (w : List ℕ) (room : ℕ) → passes r.head ≡ true → room < body_length r.head.profile → run_of r w room ≡ ran r (refused no_room) 0
unfolding run_of
refused_twelve r w room e l = simp (e, lt-leb _ _ l)

begun : (r : Reader) (w : List ℕ) (buffer : List ℕ) → Begins r buffer → run_of r w (length buffer) ≡ onward r w 0
unfolding run_of
begun r w buffer b = simp (b.passing, le-leb _ _ b.room)

-- the law, the other way
pub run_by_singles_only : (r : Reader) (w buffer : List ℕ) → Byte r.head.at → {c : CallResult Reader} {k : ℕ} → RunDoes r buffer w c k → RunIs r w buffer c k
run_by_singles_only r w buffer byte (bad_state_lem e) = run_is r w buffer _ (refused_eleven r w (length buffer) e) refl refl
run_by_singles_only r w buffer byte (no_room_lem e l) = run_is r w buffer _ (refused_twelve r w (length buffer) e l) refl refl
run_by_singles_only r w buffer byte (to_its_end {end = end} b q) =
    let k = past_quiet buffer q (record { byte = byte; test = passed r.head b.passing }) b.room in
    run_is r w buffer (ran end nothing (0 + length w))
    (begun r w buffer b ∙ ap (λ (v : List ℕ). onward r v 0) (sym (append-nil w)) ∙ k.goes [] 0) refl (zero-add (length w))
run_by_singles_only r w buffer byte (to_an_answer before after n {there} b q l a) =
    let k = past_quiet buffer q (record { byte = byte; test = passed r.head b.passing }) b.room in
    let t = taking there n in
    let single = ap (λ (x : Took). gives x buffer) (fed_taken there n (length buffer) k.ok (le-leb _ _ k.room) (le-leb n 15 l)) in
    let some_answer = says_some t.outcome (λ e. a (ap (λ (c : CallResult Reader). c.answer) single ∙ e)) in
    let i : ℕ = 0 + length before in
    let last : onward there (n ∷ after) i ≡ ran t.reader t.outcome (i + 1) = simp (le-leb n 15 l, some_answer) in
    run_is r w buffer (ran t.reader t.outcome (i + 1)) (begun r w buffer b ∙ k.goes (n ∷ after) 0 ∙ last) (sym single) (omega arith)
run_by_singles_only r w buffer byte (to_no_nibble before after n {there} b q l) =
    let k = past_quiet buffer q (record { byte = byte; test = passed r.head b.passing }) b.room in
    let i : ℕ = 0 + length before in
    let last : onward there (n ∷ after) i ≡ ran there (refused not_a_nibble) i = simp (lt-leb n 15 l) in
    run_is r w buffer (ran there (refused not_a_nibble) i) (begun r w buffer b ∙ k.goes (n ∷ after) 0 ∙ last) refl (zero-add (length before))
