-- Demand 3 over the whole list of calls: of the meaning of a stream, and of every reader whose calls answer as the meaning's do.
use Rattle.std.specs.Prelude.{◌≡◌, refl, Bool, true, false, ◌||◌, cond, List, [], ◌∷◌, ◌++◌, map, ℕ, zero, suc, ◌+◌, ◌≤◌, eqb, leb, length, take, drop}
use Rattle.std.proofs.Common.{◌∙◌, ap, ap₂, sym, subst, append_assoc, le_of_suc-le-suc, arith, length-append, take_at, drop_at, length-take-le}
use Rattle.std.proofs.Math.Option.{none}
use Rattle.bits.specs.Tests.{by_test}
use Rattle.refusal.specs.Refusal.{not_a_nibble, no_room}
use Rattle.profile.specs.declared.Profile.{Profile}
use Rattle.profile.specs.Profile.{body_length}
use Rattle.stream.specs.declared.GapFacts.{GapFacts}
use Rattle.stream.specs.declared.Answer.{Answer}
use Rattle.stream.specs.declared.Answer.TheVariants as answers
use Rattle.stream.specs.Answers.{Outcome, nothing, line, gap, refused, outcome_of, answer_for, buffer_after}
use Rattle.stream.specs.Stream.{State, fresh, step, finish, outcomes}
use Rattle.stream.specs.Written.{Sent, AllWritable, stream}
use Rattle.recovery.specs.Calls.{Call, feed, done, FinishLast, no_call, done_last, feed_first, CallResult, takes, taken_by, changed, start_after, lines_from, gap_as_sent, closed, mark_nibbles, Collector, collects, line_collector, gap_collector, on_collected, on_run, on_taken, on_lines, on_gaps, MeetsDemandThree, fed, meaning_call}
use Rattle.recovery.proofs.CallsLaws.{others_take}
use Rattle.recovery.specs.AnswerLaws.{step_cases}
use Rattle.recovery.specs.Collected.{collected, lines, gaps}
use Rattle.recovery.specs.ResyncLaws.{BringsNoLine, no_line_lem}
use Rattle.recovery.proofs.Damage.{places_within, drop_changed, writable_from, recovers}
use Rattle.recovery.proofs.Gaps.{gaps_before, gaps_from}

-- Calls and the nibbles that they take.

-- a step's answer and the buffer say its outcome
said : (p : Profile) (s : State) (n : ℕ) (buffer : List ℕ) → outcome_of p (answer_for (step p s n).outcome) (buffer_after (step p s n).outcome buffer) ≡ (step p s n).outcome
said p s n buffer =
    step_cases (λ (o : Outcome). outcome_of p (answer_for o) (buffer_after o buffer) ≡ o) refl (λ g. refl) (λ m l. refl) p s n
    (λ f body e. ap (line f) (take_at body (drop (length body) buffer) (body_length p) e))

-- a step takes its nibble, whatever it answers
pub step_taken : (p : Profile) (s : State) (n : ℕ) (w : List ℕ) → takes (answer_for (step p s n).outcome) n w ≡ n ∷ w
step_taken p s n w =
    step_cases (λ (o : Outcome). takes (answer_for o) n w ≡ n ∷ w) refl (λ g. refl)
    (λ m l. others_take m n w (λ q. omega arith) (λ q. omega arith)) p s n
    (λ f body e. refl)

-- What is collected of calls is collected of the nibbles that they take, where nothing and a refusal bring none, and finish brings none.
module _ (p : Profile) {A : Type 0} (k : Collector A) (of_nothing : k.fed nothing ≡ []) (of_refused : (n : ℕ) → k.fed (refused n) ≡ [])
    (of_finish : (s : State) → k.finished (outcome_of p (answer_for (finish p s).outcome) []) ≡ []) where
  abbrev of_nibbles : State → List ℕ → List A
  of_nibbles s w = collected k.fed (outcomes p s w)

  -- what a feeding call gives back agrees with the nibble that it takes, if the calls after it do
  abbrev Agrees : State → ℕ → List Call → CallResult State → Type 0
  Agrees s n cs c =
      k.fed (outcome_of p c.answer c.buffer) ++ on_collected (meaning_call p) k p c.reader cs
      ≡ of_nibbles s (takes c.answer n (on_taken (meaning_call p) c.reader cs))

  feed_agrees : (s : State) (n : ℕ) (buffer : List ℕ) (cs : List Call)
      → ((x : State) → on_collected (meaning_call p) k p x cs ≡ of_nibbles x (on_taken (meaning_call p) x cs)) → Agrees s n cs (meaning_call p s (feed n buffer))
  feed_agrees s n buffer cs later =
      by_test (Agrees s n cs) (leb n 15)
      (λ _. by_test (Agrees s n cs) (leb (body_length p) (length buffer)) (λ _. took) (λ _. turned_away_lem no_room))
      (λ _. turned_away_lem not_a_nibble)
    where
      turned_away_lem : (r : ℕ) → k.fed (refused r) ++ on_collected (meaning_call p) k p s cs ≡ of_nibbles s (on_taken (meaning_call p) s cs)
      turned_away_lem r = ap (λ (xs : List A). xs ++ on_collected (meaning_call p) k p s cs) (of_refused r) ∙ later s

      took : Agrees s n cs (fed p s n buffer)
      took =
          let x = (step p s n).state in
          ap₂ (λ (o : Outcome) (xs : List A). k.fed o ++ xs) (said p s n buffer) (later x)
          ∙ ap (of_nibbles s) (sym (step_taken p s n (on_taken (meaning_call p) x cs)))

  calls_collected : {cs : List Call} → FinishLast cs → (s : State) → on_collected (meaning_call p) k p s cs ≡ of_nibbles s (on_taken (meaning_call p) s cs)
  calls_collected no_call s = refl
  calls_collected done_last s = ap (λ (xs : List A). xs ++ []) (of_finish s)
  calls_collected (feed_first {n} {buffer} {cs} h) s = feed_agrees s n buffer cs (calls_collected h)

no_line_said : (p : Profile) (o : Outcome) (buffer : List ℕ) → BringsNoLine o → BringsNoLine (outcome_of p (answer_for o) buffer)
no_line_said p nothing buffer h = h
no_line_said p (line f body) buffer h = cc
no_line_said p (gap g) buffer h = h
no_line_said p (refused n) buffer h = h

pub calls_lines : (p : Profile) {cs : List Call} → FinishLast cs → (s : State) → on_lines (meaning_call p) p s cs ≡ lines p s (on_taken (meaning_call p) s cs)
calls_lines p h s =
    calls_collected p line_collector refl (λ n. refl)
    (λ s. no_line_said p (finish p s).outcome [] (no_line_lem p s.at s.text none refl)) h s

pub calls_gaps : (p : Profile) {cs : List Call} → FinishLast cs → (s : State) → on_gaps (meaning_call p) p s cs ≡ gaps p s (on_taken (meaning_call p) s cs)
calls_gaps p h s = calls_collected p gap_collector refl (λ n. refl) (λ s. refl) h s

-- Parts of a list of calls.

feed_rest : {n : ℕ} {buffer : List ℕ} {cs : List Call} → FinishLast (feed n buffer ∷ cs) → FinishLast cs
feed_rest (feed_first h) = h

done_rest : {cs : List Call} → FinishLast (done ∷ cs) → cs ≡ []
done_rest done_last = refl

not_empty : (c : Call) (cs : List Call) → c ∷ cs ≡ [] → ⊥
not_empty c cs h = let z : ◌≡◌ {A = ℕ} 0 1 = cc in omega arith

first_done : (first rest : List Call) → first ++ rest ≡ [] → FinishLast (done ∷ first)
first_done [] rest h = done_last
first_done (c ∷ first) rest h = absurd (not_empty c (first ++ rest) h)

rest_done : (first rest : List Call) → first ++ rest ≡ [] → FinishLast rest
rest_done [] rest h = subst FinishLast (sym h) no_call
rest_done (c ∷ first) rest h = absurd (not_empty c (first ++ rest) h)

pub first_part : (first rest : List Call) → FinishLast (first ++ rest) → FinishLast first
first_part [] rest h = no_call
first_part (feed n buffer ∷ first) rest h = feed_first (first_part first rest (feed_rest h))
first_part (done ∷ first) rest h = first_done first rest (done_rest h)

pub rest_part : (first rest : List Call) → FinishLast (first ++ rest) → FinishLast rest
rest_part [] rest h = h
rest_part (feed n buffer ∷ first) rest h = rest_part first rest (feed_rest h)
rest_part (done ∷ first) rest h = rest_done first rest (done_rest h)

-- a call takes one nibble or none
pub data Taking (c : Call) (a : Answer) : Type 0 where
  takes_none : ((w : List ℕ) → taken_by c a w ≡ w) → Taking c a
  takes_one : (n : ℕ) → ((w : List ℕ) → taken_by c a w ≡ n ∷ w) → Taking c a

pub taking_by : (c : Call) (a : Answer) → Taking c a
taking_by done a = takes_none (λ w. refl)
taking_by (feed n buffer) answers.Nothing = takes_one n (λ w. refl)
taking_by (feed n buffer) (answers.Line f) = takes_one n (λ w. refl)
taking_by (feed n buffer) (answers.Gap g) = takes_one n (λ w. refl)
taking_by (feed n buffer) (answers.Refused r) = go (eqb r.0 not_a_nibble || eqb r.0 no_room) refl
  where
    go : (b : Bool) → (eqb r.0 not_a_nibble || eqb r.0 no_room) ≡ b → Taking (feed n buffer) (answers.Refused r)
    go true e = takes_none (λ w. ap (λ (x : Bool). cond x w (n ∷ w)) e)
    go false e = takes_one n (λ w. ap (λ (x : Bool). cond x w (n ∷ w)) e)

pub taking_append : {c : Call} {a : Answer} → Taking c a → (u v : List ℕ) → taken_by c a (u ++ v) ≡ taken_by c a u ++ v
taking_append (takes_none e) u v = e (u ++ v) ∙ ap (λ (w : List ℕ). w ++ v) (sym (e u))
taking_append (takes_one n e) u v = e (u ++ v) ∙ ap (λ (w : List ℕ). w ++ v) (sym (e u))

module _ {R : Type 0} (on : R → Call → CallResult R) where
  pub taken_append : (r : R) (first rest : List Call) → on_taken on r (first ++ rest) ≡ on_taken on r first ++ on_taken on (on_run on r first) rest
  taken_append r [] rest = refl
  taken_append r (c ∷ first) rest =
      ap (taken_by c (on r c).answer) (taken_append (on r c).reader first rest)
      ∙ taking_append (taking_by c (on r c).answer) (on_taken on (on r c).reader first) (on_taken on (on_run on (on r c).reader first) rest)

  pub run_append : (r : R) (first rest : List Call) → on_run on r (first ++ rest) ≡ on_run on (on_run on r first) rest
  run_append r [] rest = refl
  run_append r (c ∷ first) rest = run_append (on r c).reader first rest

  pub collected_both : {A : Type 0} (k : Collector A) (p : Profile) (r : R) (first rest : List Call)
      → on_collected on k p r (first ++ rest) ≡ on_collected on k p r first ++ on_collected on k p (on_run on r first) rest
  collected_both k p r [] rest = refl
  collected_both {A} k p r (c ∷ first) rest =
      let now = collects k c (outcome_of p (on r c).answer (on r c).buffer) in
      ap (λ (xs : List A). now ++ xs) (collected_both k p (on r c).reader first rest)
      ∙ sym (append_assoc now (on_collected on k p (on r c).reader first) (on_collected on k p (on_run on (on r c).reader first) rest))

  -- first calls that take i nibbles, and the calls after them
  pub record Split (r : R) (cs : List Call) (i : ℕ) : Type 0 where
    pub first : List Call
    pub rest : List Call
    pub all : first ++ rest ≡ cs
    pub taken : length (on_taken on r first) ≡ i

  split_more : {r : R} {c : Call} {cs : List Call} (i : ℕ) → Taking c (on r c).answer → i ≤ length (on_taken on r (c ∷ cs))
      → ((k : ℕ) → k ≤ length (on_taken on (on r c).reader cs) → Split (on r c).reader cs k) → Split r (c ∷ cs) i
  split_more {r} {c} {cs} i (takes_none e) h more =
      let m : Split (on r c).reader cs i = more i (subst (λ (w : List ℕ). i ≤ length w) (e (on_taken on (on r c).reader cs)) h) in
      record {
        first = c ∷ m.first;
        rest = m.rest;
        all = ap {B = List Call} (λ l. c ∷ l) m.all;
        taken = ap length (e (on_taken on (on r c).reader m.first)) ∙ m.taken;
      }
  split_more {r} {c} {cs} zero (takes_one n e) h more = record { first = []; rest = c ∷ cs; all = refl; taken = refl }
  split_more {r} {c} {cs} (suc i) (takes_one n e) h more =
      let m : Split (on r c).reader cs i = more i (le_of_suc-le-suc (subst (λ (w : List ℕ). suc i ≤ length w) (e (on_taken on (on r c).reader cs)) h)) in
      record {
        first = c ∷ m.first;
        rest = m.rest;
        all = ap {B = List Call} (λ l. c ∷ l) m.all;
        taken = ap length (e (on_taken on (on r c).reader m.first)) ∙ ap suc m.taken;
      }

  -- some first calls take any number of the nibbles that all calls take
  pub split : (r : R) (cs : List Call) (i : ℕ) → i ≤ length (on_taken on r cs) → Split r cs i
  split r [] i h = record { first = []; rest = []; all = refl; taken = omega arith }
  split r (c ∷ cs) i h = split_more i (taking_by c (on r c).answer) h (λ k. split (on r c).reader cs k)

  -- so demand 3 speaks of some calls, before the stretch and after it
  pub splits : (r : R) (ss : List Sent) (i j : ℕ) → i ≤ j → j ≤ length (stream ss) → (new : List ℕ) (cs : List Call) → on_taken on r cs ≡ changed ss i j new
      → Split r cs i × Split r cs (start_after ss i j new)
  splits r ss i j ij jl new cs t =
      let h = places_within ss i j new ij jl in
      (split r cs i (subst (λ (w : List ℕ). i ≤ length w) (sym t) h.0), split r cs (start_after ss i j new) (subst (λ (w : List ℕ). start_after ss i j new ≤ length w) (sym t) h.1))

-- After the stretch: the calls that take the first mark are set aside.

head_same : {A : Type 0} (x : A) (u v : List A) → x ∷ u ≡ x ∷ v → u ≡ v
head_same x u v h = ap (λ l. after_first_lem u l) h
  where
    after_first_lem : {A : Type 0} → List A → List A → List A
    after_first_lem d [] = d
    after_first_lem d (y ∷ l) = l

pub cancel : {A : Type 0} (u v w : List A) → u ++ v ≡ u ++ w → v ≡ w
cancel [] v w h = h
cancel (x ∷ u) v w h = cancel u v w (head_same x (u ++ v) (u ++ w) h)

-- calls that take a clean stream from any state, and those that take its first mark
gaps_after : (p : Profile) {ss : List Sent} → AllWritable p ss → (x : State) (mark rest : List Call) → FinishLast (mark ++ rest)
    → on_taken (meaning_call p) x (mark ++ rest) ≡ stream ss → length (on_taken (meaning_call p) x mark) ≡ mark_nibbles
    → on_gaps (meaning_call p) p (on_run (meaning_call p) x mark) rest ≡ map gap_as_sent (closed ss)
gaps_after p {ss} h x mark rest fl t n =
    let on = meaning_call p in
    let y = on_run on x mark in
    let first : on_taken on x mark ≡ take mark_nibbles (stream ss)
    = sym (take_at (on_taken on x mark) (on_taken on y rest) mark_nibbles n) ∙ ap (take mark_nibbles) (sym (taken_append on x mark rest) ∙ t) in
    cancel (on_gaps on p x mark) (on_gaps on p y rest) (map gap_as_sent (closed ss))
    (sym (collected_both on gap_collector p x mark rest)
    ∙ calls_gaps p fl x
    ∙ ap (gaps p x) t
    ∙ gaps_from p h x
    ∙ ap (λ (l : List GapFacts). l ++ map gap_as_sent (closed ss)) (sym (calls_gaps p (first_part mark rest fl) x ∙ ap (gaps p x) first)))

-- The theorem.

-- the meaning of a stream meets demand 3
pub demand_three : (p : Profile) → MeetsDemandThree (meaning_call p) p fresh
demand_three p ss h i j ij jl new cs fl t =
    let on = meaning_call p in
    let whole : (first rest : List Call) → first ++ rest ≡ cs → on_taken on fresh first ++ on_taken on (on_run on fresh first) rest ≡ changed ss i j new
    = λ first rest e. sym (taken_append on fresh first rest) ∙ ap (on_taken on fresh) e ∙ t in
    record {
      lines_before = λ first rest e n.
          calls_lines p (first_part first rest (subst FinishLast (sym e) fl)) fresh
          ∙ ap (lines p fresh) (sym (take_at (on_taken on fresh first) (on_taken on (on_run on fresh first) rest) i n) ∙ ap (take i) (whole first rest e))
          ∙ (recovers p ss h i j ij jl new fresh).lines_before;
      lines_after = λ first rest e n.
          let x = on_run on fresh first in
          let q = start_after ss i j new in
          calls_lines p (rest_part first rest (subst FinishLast (sym e) fl)) x
          ∙ ap (lines p x) (sym (drop_at (on_taken on fresh first) (on_taken on x rest) q n) ∙ ap (drop q) (whole first rest e))
          ∙ (recovers p ss h i j ij jl new x).lines_after;
      periods_before = λ first rest e n.
          calls_gaps p (first_part first rest (subst FinishLast (sym e) fl)) fresh
          ∙ ap (gaps p fresh)
          (sym (take_at (on_taken on fresh first) (on_taken on (on_run on fresh first) rest) i n)
          ∙ ap (take i) (whole first rest e)
          ∙ take_at (take i (stream ss)) (new ++ drop j (stream ss)) i (length-take-le i (stream ss) (omega arith)))
          ∙ gaps_before p h i;
      periods_after = λ first rest e n.
          let q = start_after ss i j new in
          let sp = split on fresh first q (omega arith) in
          let x = on_run on fresh sp.first in
          let mark = sp.rest in
          let cut : sp.first ++ (mark ++ rest) ≡ cs = sym (append_assoc sp.first mark rest) ∙ ap (λ (l : List Call). l ++ rest) sp.all ∙ e in
          let same : on_run on x mark ≡ on_run on fresh first = sym (run_append on fresh sp.first mark) ∙ ap (on_run on fresh) sp.all in
          let taken : on_taken on x (mark ++ rest) ≡ stream (lines_from j 0 ss)
          = sym (drop_at (on_taken on fresh sp.first) (on_taken on x (mark ++ rest)) q sp.taken) ∙ ap (drop q) (whole sp.first (mark ++ rest) cut) ∙ drop_changed ss i j new ij jl in
          let eight : length (on_taken on x mark) ≡ mark_nibbles
          = (let k : length (on_taken on fresh first) ≡ length (on_taken on fresh sp.first) + length (on_taken on x mark)
          = ap (λ (l : List Call). length (on_taken on fresh l)) (sym sp.all) ∙ ap length (taken_append on fresh sp.first mark) ∙ length-append (on_taken on fresh sp.first) (on_taken on x mark) in
          omega (arith, k, n, sp.taken)) in
          sym (ap (λ (y : State). on_gaps on p y rest) same)
          ∙ gaps_after p (writable_from p j 0 h) x mark rest (rest_part sp.first (mark ++ rest) (subst FinishLast (sym cut) fl)) taken eight;
    }

-- Any reader that answers alike. Same r s: the reader r stands for the state s, and goes on so at each call, with the same answer and
-- the same buffer
module _ {R : Type 0} (on : R → Call → CallResult R) (p : Profile) (Same : R → State → Type 0)
    (same_reader : (r : R) (s : State) (c : Call) → Same r s → Same (on r c).reader (meaning_call p s c).reader)
    (same_answer : (r : R) (s : State) (c : Call) → Same r s → (on r c).answer ≡ (meaning_call p s c).answer)
    (same_buffer : (r : R) (s : State) (c : Call) → Same r s → (on r c).buffer ≡ (meaning_call p s c).buffer) where
  pub same_run : (cs : List Call) (r : R) (s : State) → Same r s → Same (on_run on r cs) (on_run (meaning_call p) s cs)
  same_run [] r s h = h
  same_run (c ∷ cs) r s h = same_run cs (on r c).reader (meaning_call p s c).reader (same_reader r s c h)

  pub same_collected : {A : Type 0} (k : Collector A) (cs : List Call) (r : R) (s : State) → Same r s
      → on_collected on k p r cs ≡ on_collected (meaning_call p) k p s cs
  same_collected k [] r s h = refl
  same_collected {A} k (c ∷ cs) r s h =
      ap₂ (λ a b. collects k c (outcome_of p a b) ++ on_collected on k p (on r c).reader cs) (same_answer r s c h) (same_buffer r s c h)
      ∙ ap (λ (xs : List A). collects k c (outcome_of p (meaning_call p s c).answer (meaning_call p s c).buffer) ++ xs)
      (same_collected k cs (on r c).reader (meaning_call p s c).reader (same_reader r s c h))

  pub same_taken : (cs : List Call) (r : R) (s : State) → Same r s → on_taken on r cs ≡ on_taken (meaning_call p) s cs
  same_taken [] r s h = refl
  same_taken (c ∷ cs) r s h =
      ap (λ a. taken_by c a (on_taken on (on r c).reader cs)) (same_answer r s c h)
      ∙ ap (taken_by c (meaning_call p s c).answer) (same_taken cs (on r c).reader (meaning_call p s c).reader (same_reader r s c h))

  -- then r meets demand 3 if it stands for the fresh state
  pub carried : (r : R) → Same r fresh → MeetsDemandThree on p r
  carried r h ss w i j ij jl new cs fl t =
      let d = demand_three p ss w i j ij jl new cs fl (sym (same_taken cs r fresh h) ∙ t) in
      record {
        lines_before = λ first rest e n. same_collected line_collector first r fresh h ∙ d.lines_before first rest e (ap length (sym (same_taken first r fresh h)) ∙ n);
        lines_after = λ first rest e n.
            same_collected line_collector rest (on_run on r first) (on_run (meaning_call p) fresh first) (same_run first r fresh h)
            ∙ d.lines_after first rest e (ap length (sym (same_taken first r fresh h)) ∙ n);
        periods_before = λ first rest e n. same_collected gap_collector first r fresh h ∙ d.periods_before first rest e (ap length (sym (same_taken first r fresh h)) ∙ n);
        periods_after = λ first rest e n.
            same_collected gap_collector rest (on_run on r first) (on_run (meaning_call p) fresh first) (same_run first r fresh h)
            ∙ d.periods_after first rest e (ap length (sym (same_taken first r fresh h)) ∙ n);
      }
