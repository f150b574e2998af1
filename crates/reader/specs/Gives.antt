-- What a call gives back, each as one sentence: the reader, the answer, and what was lent to it, as the definition has them.
use Rattle.std.specs.Prelude.{◌≡◌, List, ℕ}
use Rattle.profile.specs.declared.Profile.{Profile}
use Rattle.stream.specs.Answers.{outcome_of, answer_for, buffer_after}
use Rattle.reader.specs.declared.Fed.{Fed}
use Rattle.reader.specs.declared.Stepped.{Stepped}
use Rattle.reader.specs.Reader.{Took}

-- creation, and finish: no buffer is lent
pub record CallGives (t : Took) (r : Fed) : Type 0 where
  pub next : r.reader ≡ t.reader
  pub says : r.answer ≡ answer_for t.outcome

-- feeding: the answer and the buffer, as it is afterwards, say the outcome
pub record FeedGives (p : Profile) (t : Took) (r : Fed) (before after : List ℕ) : Type 0 where
  pub next : r.reader ≡ t.reader
  pub says : outcome_of p r.answer after ≡ t.outcome
  pub leaves : after ≡ buffer_after t.outcome before

-- a nibble taken with the body lent too
pub record TakeGives (t : Took) (r : Stepped) (body before after : List ℕ) : Type 0 where
  pub next : r.head ≡ t.reader.head
  pub keeps : body ≡ t.reader.body
  pub says : r.answer ≡ answer_for t.outcome
  pub leaves : after ≡ buffer_after t.outcome before
