-- Refusals 18 and 19 have their words, by the two tests; any other has none.
use Rattle.text.specs.PagesLaws.{nothing}
use Rattle.list_news.specs.NewsLines.{reason_words}
use Rattle.list_news.proofs.put_reason.Goals as goal

pub returns-then-eq : goal.returns-then-eq
unfolding reason_words
returns-then-eq c = simp (← c.eq.ensures, c.if-eq.true) c.put.ensures

pub returns-then-eq-2 : goal.returns-then-eq-2
unfolding reason_words
returns-then-eq-2 c = simp (← c.eq.ensures, c.if-eq.false, ← c.eq-2.ensures, c.if-eq-2.true) c.put_broken_line.ensures

pub returns : goal.returns
unfolding reason_words
returns c = simp (← c.eq.ensures, c.if-eq.false, ← c.eq-2.ensures, c.if-eq-2.false) (nothing _)
