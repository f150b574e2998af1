-- What feeding and judging give back, each as one sentence: the number, and what was lent to it, as the definition has them.
use Rattle.std.specs.Prelude.{◌≡◌, List, ℕ}
use Rattle.fluturenc.specs.Calls.{FeedCalled, JudgeCalled}

-- feeding: the reader's state is lent, the line buffer, and the place for the count
pub record FeedCallGives (c : FeedCalled) (answer taken : ℕ) (state line : List ℕ) : Type 0 where
  pub says : answer ≡ c.answer
  pub count : taken ≡ c.taken
  pub keeps : state ≡ c.state
  pub leaves : line ≡ c.line

-- judging: the judge is lent
pub record JudgeGives (c : JudgeCalled) (answer judge : ℕ) : Type 0 where
  pub says : answer ≡ c.answer
  pub next : judge ≡ c.judge
