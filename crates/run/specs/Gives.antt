-- What a run gives back, each as one sentence: the reader, the count, the answer, and what was lent to it, as the definition has them.
use Rattle.std.specs.Prelude.{◌≡◌, List, ℕ}
use Rattle.profile.specs.declared.Profile.{Profile}
use Rattle.stream.specs.Answers.{outcome_of, buffer_after}
use Rattle.run.specs.declared.RunFed.{RunFed}
use Rattle.run.specs.declared.RunStepped.{RunStepped}
use Rattle.run.specs.Run.{Ran}

-- the answer and the buffer, as it is afterwards, say the outcome
pub record RunGives (p : Profile) (t : Ran) (r : RunFed) (before after : List ℕ) : Type 0 where
  pub next : r.reader ≡ t.reader
  pub count : r.taken ≡ t.taken
  pub says : outcome_of p r.answer after ≡ t.outcome
  pub leaves : after ≡ buffer_after t.outcome before

-- the same with the body lent too
pub record LentRunGives (p : Profile) (t : Ran) (r : RunStepped) (body before after : List ℕ) : Type 0 where
  pub next : r.head ≡ t.reader.head
  pub keeps : body ≡ t.reader.body
  pub count : r.taken ≡ t.taken
  pub says : outcome_of p r.answer after ≡ t.outcome
  pub leaves : after ≡ buffer_after t.outcome before
