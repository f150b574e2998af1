-- Laws of answers, by their cases: an answer is told by the outcome that it says, is a line where that is one, and is none where that is
-- nothing.
use Rattle.std.specs.Prelude.{◌≡◌, refl, false, List, ℕ}
use Rattle.std.proofs.Common.{ap, true≢false}
use Rattle.profile.specs.declared.Profile.{Profile}
use Rattle.stream.specs.declared.Answer.{Answer}
use Rattle.stream.specs.declared.Answer.TheVariants as answer
use Rattle.stream.specs.Answers.{Outcome, nothing, line, gap, refused, outcome_of, answer_for, is_line, is_line_answer, is_answer}

pub answer_of : (p : Profile) (a : Answer) (buffer : List ℕ) (o : Outcome) → outcome_of p a buffer ≡ o → a ≡ answer_for o
answer_of p answer.Nothing buffer o e = ap answer_for e
answer_of p (answer.Line f) buffer o e = ap answer_for e
answer_of p (answer.Gap g) buffer o e = ap answer_for e
answer_of p (answer.Refused r) buffer o e = ap answer_for e

pub line_said : (o : Outcome) → is_line_answer (answer_for o) ≡ is_line o
line_said nothing = refl
line_said (line f body) = refl
line_said (gap g) = refl
line_said (refused n) = refl

pub no_answer : (o : Outcome) → is_answer (answer_for o) ≡ false → o ≡ nothing
no_answer nothing e = refl
no_answer (line f body) e = absurd (true≢false e)
no_answer (gap g) e = absurd (true≢false e)
no_answer (refused n) e = absurd (true≢false e)
