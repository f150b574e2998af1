-- The reader's own calls answer a clean stream, whole or cut, as the meaning does.
use Rattle.std.specs.Prelude.{◌≡◌, refl, Bool, true, false, cond, List, [], ◌∷◌, ◌++◌, ℕ}
use Rattle.std.proofs.Common.{◌∙◌, ap, ap₂, sym, subst, append-nil, arith}
use Rattle.profile.specs.declared.Profile.{Profile}
use Rattle.stream.specs.Answers.{Outcome, nothing, line, gap, refused}
use Rattle.stream.specs.Stream.{fresh, finish, run, outcomes}
use Rattle.stream.specs.Written.{Sent, AllWritable, stream}
use Rattle.reader.specs.Reader.{fresh_reader}
use Rattle.recovery.specs.Calls.{line_in, gap_in}
use Rattle.recovery.specs.Collected.{collected}
use Rattle.recovery.specs.CollectedLaws.{collected_append}
use Rattle.recovery.specs.CleanAnswers.{said_in, said, clean_answers}
use Rattle.recovery.proofs.CleanAnswersLaws.{clean_answers_lem}
use Rattle.recovery.specs.CallAnswers.{brought_by}
use Rattle.recovery.specs.CutStream.{cut_out}
use Rattle.recovery.proofs.CutStreamLaws.{cut_stream}
use Rattle.refinement.specs.Refine.{Follows}
use Rattle.refinement.specs.Runs.{RunCall, on_runs, runs_taken, FinishLastRun}
use Rattle.refinement.specs.RunAnswers.{runs_finish}
use Rattle.refinement.proofs.RunAnswersLaws.{runs_follow, runs_said}
use Rattle.demands.specs.DemandTwo.{answers_to}
use Rattle.demands.specs.Captures.{CaptureRead}

-- what is collected of the answers is collected of the outcomes, where nothing brings none
collected_said : {A : Type 0} (brings : Outcome → List A) → brings nothing ≡ [] → (os : List Outcome) → collected brings (said os) ≡ collected brings os
collected_said brings h [] = refl
collected_said {A} brings h (nothing ∷ os) = collected_said brings h os ∙ sym (ap (λ (xs : List A). xs ++ collected brings os) h)
collected_said {A} brings h (line f body ∷ os) = ap (λ (xs : List A). brings (line f body) ++ xs) (collected_said brings h os)
collected_said {A} brings h (gap g ∷ os) = ap (λ (xs : List A). brings (gap g) ++ xs) (collected_said brings h os)
collected_said {A} brings h (refused n ∷ os) = ap (λ (xs : List A). brings (refused n) ++ xs) (collected_said brings h os)

said_last : (p : Profile) (w : List ℕ) (b : Bool)
    → said (brought_by p fresh w b) ≡ said (outcomes p fresh w) ++ cond b (said_in (finish p (run p fresh w)).outcome) []
said_last p w false = sym (append-nil (said (outcomes p fresh w)))
said_last p w true =
    collected_append said_in (outcomes p fresh w) ((finish p (run p fresh w)).outcome ∷ [])
    ∙ ap (λ (os : List Outcome). said (outcomes p fresh w) ++ os) (append-nil (said_in (finish p (run p fresh w)).outcome))

-- of a clean stream cut anywhere at both ends
pub capture_read : (p : Profile) {ss : List Sent} → AllWritable p ss → (i n : ℕ) (cs : List RunCall) → FinishLastRun cs
    → runs_taken (fresh_reader p) cs ≡ cut_out ss i n → CaptureRead p ss i n cs
capture_read p {ss} h i n cs fl e =
    let c = cut_stream p h i n in
    let w = cut_out ss i n in
    record {
      on_the_way = said (outcomes p fresh w);
      last = (finish p (run p fresh w)).outcome;
      answered = runs_said p fl ∙ ap (λ (v : List ℕ). said (brought_by p fresh v (runs_finish cs))) e ∙ said_last p w (runs_finish cs);
      orderly = c.answers_orderly;
      last_fits = c.finish_answers;
      lines_whole = collected_said line_in refl (outcomes p fresh w) ∙ c.lines_whole;
      gaps_closed = collected_said gap_in refl (outcomes p fresh w) ∙ c.gaps_closed;
      text_short = λ no before code at.
          let f = (subst (λ (v : List ℕ). Follows p (on_runs (fresh_reader p) cs) (run p fresh v)) e (runs_follow p cs no)).same.head_same in
          let short = c.text_short before code (sym f.at_same ∙ at) in
          omega (arith, f.count_same, short);
    }

-- of a whole clean stream that is finished: each line and its gap as sent, in order, and no other answer
pub clean_read : (p : Profile) {ss : List Sent} → AllWritable p ss → (cs : List RunCall) → FinishLastRun cs → runs_finish cs ≡ true
    → runs_taken (fresh_reader p) cs ≡ stream ss → answers_to p cs ≡ clean_answers ss
clean_read p {ss} h cs fl b e =
    runs_said p fl
    ∙ ap₂ (λ (v : List ℕ) (x : Bool). said (brought_by p fresh v x)) e b
    ∙ clean_answers_lem p h
