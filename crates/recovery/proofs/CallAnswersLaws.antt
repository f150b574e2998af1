-- Over any list of calls the marks' answers are those of the nibbles taken, and of finish where it is the last call, and so is the state: a refused
-- call takes none and answers no mark.
use Rattle.std.specs.Prelude.{◌≡◌, refl, Bool, true, false, cond, List, [], ◌∷◌, ◌++◌, ℕ, ◌<◌, leb, length, drop}
use Rattle.std.proofs.Common.{◌∙◌, ap, ap₂, sym, true≢false, take_at, lt-ltb}
use Rattle.std.proofs.Math.Option.{none}
use Rattle.bits.specs.Tests.{by_test}
use Rattle.refusal.specs.Refusal.{not_a_nibble}
use Rattle.profile.specs.declared.Profile.{Profile}
use Rattle.profile.specs.Profile.{body_length}
use Rattle.stream.specs.Answers.{Outcome, line, refused, outcome_of, answer_for, buffer_after}
use Rattle.stream.specs.Stream.{State, step, finish, run}
use Rattle.recovery.specs.Calls.{Call, feed, done, FinishLast, no_call, done_last, feed_first, CallResult, takes, on_run, on_taken, on_collected, fed, meaning_call}
use Rattle.recovery.specs.AnswerLaws.{answer_cases, step_cases}
use Rattle.recovery.proofs.DemandThree.{step_taken}
use Rattle.recovery.specs.CleanAnswers.{said_in, said}
use Rattle.recovery.specs.CallAnswers.{mark_answer_in, mark_collector, with_finish, brought_by}

below_ten : (n : ℕ) → n < not_a_nibble → mark_answer_in (refused n) ≡ refused n ∷ []
below_ten n l = ap (λ (b : Bool). cond b (refused n ∷ []) []) (lt-ltb n not_a_nibble l)

-- what a step and finish say
step_says : (p : Profile) (s : State) (n : ℕ) (buffer : List ℕ)
    → mark_answer_in (outcome_of p (answer_for (step p s n).outcome) (buffer_after (step p s n).outcome buffer)) ≡ said_in (step p s n).outcome
step_says p s n buffer =
    step_cases (λ (o : Outcome). mark_answer_in (outcome_of p (answer_for o) (buffer_after o buffer)) ≡ said_in o) refl (λ g. refl) below_ten p s n
    (λ f body e. ap (λ (b : List ℕ). line f b ∷ []) (take_at body (drop (length body) buffer) (body_length p) e))

finish_says : (p : Profile) (s : State) → mark_answer_in (outcome_of p (answer_for (finish p s).outcome) []) ≡ said_in (finish p s).outcome
finish_says p s =
    answer_cases (λ (o : Outcome). mark_answer_in (outcome_of p (answer_for o) []) ≡ said_in o) refl (λ g. refl) below_ten p s.at s.text none
    (λ f body l e. absurd (true≢false (sym e)))

brought_more : (p : Profile) (s : State) (n : ℕ) (w : List ℕ) (b : Bool) → brought_by p s (n ∷ w) b ≡ (step p s n).outcome ∷ brought_by p (step p s n).state w b
brought_more p s n w true = refl
brought_more p s n w false = refl

module _ (p : Profile) where
  -- what a feeding call gives back agrees with the nibble that it takes, if the calls after it do
  abbrev Agrees : State → ℕ → List Call → CallResult State → Type 0
  Agrees s n cs c =
      mark_answer_in (outcome_of p c.answer c.buffer) ++ on_collected (meaning_call p) mark_collector p c.reader cs
      ≡ said (brought_by p s (takes c.answer n (on_taken (meaning_call p) c.reader cs)) (with_finish cs))

  feed_agrees : (s : State) (n : ℕ) (buffer : List ℕ) (cs : List Call)
      → ((x : State) → on_collected (meaning_call p) mark_collector p x cs ≡ said (brought_by p x (on_taken (meaning_call p) x cs) (with_finish cs)))
      → Agrees s n cs (meaning_call p s (feed n buffer))
  feed_agrees s n buffer cs later =
      by_test (Agrees s n cs) (leb n 15) (λ _. by_test (Agrees s n cs) (leb (body_length p) (length buffer)) (λ _. took) (λ _. later s)) (λ _. later s)
    where
      took : Agrees s n cs (fed p s n buffer)
      took =
          let x = (step p s n).state in
          let w = on_taken (meaning_call p) x cs in
          ap₂ (λ (os l : List Outcome). os ++ l) (step_says p s n buffer) (later x)
          ∙ ap said (sym (brought_more p s n w (with_finish cs)))
          ∙ ap (λ (v : List ℕ). said (brought_by p s v (with_finish cs))) (sym (step_taken p s n w))

  -- calls without finish lead where the nibbles lead that they take
  pub calls_run : (cs : List Call) → with_finish cs ≡ false → (s : State) → on_run (meaning_call p) s cs ≡ run p s (on_taken (meaning_call p) s cs)
  calls_run [] e s = refl
  calls_run (done ∷ cs) e s = absurd (true≢false e)
  calls_run (feed n buffer ∷ cs) e s = go (calls_run cs e)
    where
      Leads : CallResult State → Type 0
      Leads c = on_run (meaning_call p) c.reader cs ≡ run p s (takes c.answer n (on_taken (meaning_call p) c.reader cs))

      go : ((x : State) → on_run (meaning_call p) x cs ≡ run p x (on_taken (meaning_call p) x cs)) → Leads (meaning_call p s (feed n buffer))
      go later =
          by_test Leads (leb n 15)
          (λ _. by_test Leads (leb (body_length p) (length buffer)) (λ _. later (step p s n).state ∙ ap (run p s) (sym (step_taken p s n _))) (λ _. later s)) (λ _. later s)

  pub calls_said : {cs : List Call} → FinishLast cs → (s : State)
      → on_collected (meaning_call p) mark_collector p s cs ≡ said (brought_by p s (on_taken (meaning_call p) s cs) (with_finish cs))
  calls_said no_call s = refl
  calls_said done_last s = ap (λ (os : List Outcome). os ++ []) (finish_says p s)
  calls_said (feed_first {n} {buffer} {cs} h) s = feed_agrees s n buffer cs (calls_said h)
