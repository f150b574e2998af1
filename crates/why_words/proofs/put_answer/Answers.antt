-- By whether there is a refusal.
use borrow.Author.Tests.{eq-eqb, ne_eqb}
use Rattle.text.specs.PagesLaws.{next}
use Rattle.why_words.specs.ReasonWords.{answer_words}
use borrow.Author.Rules.{rules}
use Rattle.why_words.proofs.put_answer.Goals as goal

pub returns-then-refusal-eq0 : goal.returns-then-refusal-eq0
unfolding answer_words
returns-then-refusal-eq0 c =
    simp (eq-eqb _ _ c.if-refusal-eq0.true) c.put.ensures

pub returns-else-refusal-eq0 : goal.returns-else-refusal-eq0
unfolding answer_words
returns-else-refusal-eq0 c =
    simp (ne_eqb _ _ c.if-refusal-eq0.false) (next c.put_refused.ensures c.put-else-refusal-eq0.ensures)
