-- What is given back where the next mark closes an open one, as one sentence.
use Rattle.std.specs.Prelude.{◌≡◌}
use Rattle.stream.specs.declared.Mark.{Mark}
use Rattle.stream.specs.Answers.{Outcome, is_line, answer_for}
use Rattle.stream.specs.Stream.{kind_at, before_by}
use Rattle.mark_answer.specs.declared.Closed.{Closed}

-- the mark's answer; and what the mark is to the next one, by its own kind and whether it was handed out as a line
pub record MarkGives (m : Mark) (o : Outcome) (r : Closed) : Type 0 where
  pub says : r.answer ≡ answer_for o
  pub leaves : r.before ≡ before_by (kind_at m) (is_line o)
