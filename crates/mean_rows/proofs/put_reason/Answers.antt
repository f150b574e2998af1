-- The words where it is a gap's refusal, and nothing elsewhere.
use Rattle.text.specs.PagesLaws.{nothing}
use Rattle.mean_rows.specs.MeanRows.{gap_refusal_words}
use borrow.Author.Rules.{rules}
use Rattle.mean_rows.proofs.put_reason.Goals as goal

pub returns-then-eq : goal.returns-then-eq
unfolding gap_refusal_words
returns-then-eq c = simp (← c.eq.ensures, c.if-eq.true) c.put.ensures

pub returns-else-eq : goal.returns-else-eq
unfolding gap_refusal_words
returns-else-eq c = simp (← c.eq.ensures, c.if-eq.false) (nothing _)
