-- What any list of calls of the reader brings out, runs and refused calls among them: what the nibbles taken bring, and finish where it is the
-- last call. One law for lines and for the lines handed to the judge, since both are told by the marks' answers.
use Rattle.std.specs.Prelude.{◌≡◌, refl, Bool, true, false, cond, List, [], ◌∷◌, ◌++◌, ℕ, ltb}
use Rattle.std.proofs.Common.{◌∙◌, ap, ap₂, sym, append-nil}
use Rattle.refusal.specs.Refusal.{not_a_nibble}
use Rattle.profile.specs.declared.Profile.{Profile}
use Rattle.stream.specs.Answers.{Outcome, nothing, line, gap, refused, outcome_of}
use Rattle.stream.specs.Stream.{fresh}
use Rattle.reader.specs.declared.Reader.{Reader}
use Rattle.reader.specs.Reader.{fresh_reader}
use Rattle.recovery.specs.Calls.{feed, done, Collector}
use Rattle.recovery.specs.Collected.{collected}
use Rattle.recovery.specs.CollectedLaws.{collected_append}
use Rattle.recovery.specs.CleanAnswers.{said_in, said}
use Rattle.recovery.specs.CallAnswers.{mark_answer_in, mark_collector, brought_by}
use Rattle.refinement.specs.Runs.{RunCall, run, one, run_result, runs_taken, run_collects, runs_collected, FinishLastRun}
use Rattle.refinement.specs.RunAnswers.{runs_finish}
use Rattle.refinement.proofs.RunAnswersLaws.{runs_said}

-- the same of every call, finish among them
abbrev pub of_each : {A : Type 0} → (Outcome → List A) → Collector A
of_each brings = record { fed = brings; finished = brings }

pub of_each_lem : {A : Type 0} (brings : Outcome → List A) (c : RunCall) (o : Outcome) → run_collects (of_each brings) c o ≡ brings o
of_each_lem brings (run w buffer) o = refl
of_each_lem brings (one (feed n buffer)) o = refl
of_each_lem brings (one done) o = refl

-- nothing brings none, and a refused call, 10 or above, brings none
module _ {A : Type 0} (brings : Outcome → List A) (of_nothing : brings nothing ≡ []) (of_refused : (n : ℕ) → ltb n not_a_nibble ≡ false → brings (refused n) ≡ []) where
  of_answer : (o : Outcome) → brings o ≡ collected brings (mark_answer_in o)
  of_answer nothing = of_nothing
  of_answer (line f body) = sym (append-nil (brings (line f body)))
  of_answer (gap g) = sym (append-nil (brings (gap g)))
  of_answer (refused n) = go (ltb n not_a_nibble) refl
    where
      go : (b : Bool) → ltb n not_a_nibble ≡ b → brings (refused n) ≡ collected brings (cond b (refused n ∷ []) [])
      go true e = sym (append-nil (brings (refused n)))
      go false e = of_refused n e

  of_answers : (p : Profile) (cs : List RunCall) (r : Reader) → runs_collected (of_each brings) p r cs ≡ collected brings (runs_collected mark_collector p r cs)
  of_answers p [] r = refl
  of_answers p (c ∷ cs) r =
      let g = run_result r c in
      let o = outcome_of p g.answer g.buffer in
      ap₂ (λ (u v : List A). u ++ v) (of_each_lem brings c o ∙ of_answer o ∙ ap (collected brings) (sym (of_each_lem mark_answer_in c o))) (of_answers p cs g.reader)
      ∙ sym (collected_append brings (run_collects mark_collector c o) (runs_collected mark_collector p g.reader cs))

  of_said : (os : List Outcome) → collected brings (said os) ≡ collected brings os
  of_said [] = refl
  of_said (o ∷ os) = collected_append brings (said_in o) (said os) ∙ ap₂ (λ (u v : List A). u ++ v) (one_said o) (of_said os)
    where
      one_said : (o : Outcome) → collected brings (said_in o) ≡ brings o
      one_said nothing = sym of_nothing
      one_said (line f body) = append-nil (brings (line f body))
      one_said (gap g) = append-nil (brings (gap g))
      one_said (refused n) = append-nil (brings (refused n))

  -- the law: from a fresh reader
  pub calls_bring : (p : Profile) {cs : List RunCall} → FinishLastRun cs
      → runs_collected (of_each brings) p (fresh_reader p) cs ≡ collected brings (brought_by p fresh (runs_taken (fresh_reader p) cs) (runs_finish cs))
  calls_bring p {cs} h =
      of_answers p cs (fresh_reader p)
      ∙ ap (collected brings) (runs_said p h)
      ∙ of_said (brought_by p fresh (runs_taken (fresh_reader p) cs) (runs_finish cs))
