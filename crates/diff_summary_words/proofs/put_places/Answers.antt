-- Nothing without pixels; else a line after another.
use borrow.Author.Tests.{eq-eqb, ne_eqb}
use Rattle.text.specs.PagesLaws.{next, nothing}
use Rattle.diff_summary_words.specs.SummaryWords.{places_text}
use borrow.Author.Rules.{rules}
use Rattle.diff_summary_words.proofs.put_places.Goals as goal

pub returns-then-summary-eq0 : goal.returns-then-summary-eq0
unfolding places_text
returns-then-summary-eq0 c = simp (eq-eqb _ _ c.if-summary-eq0.true) (nothing _)

pub returns : goal.returns
unfolding places_text
returns c =
    simp (ne_eqb _ _ c.if-summary-eq0.false) (next c.put_count.ensures (next c.put_count-2.ensures (next c.put_count-3.ensures c.put_count-4.ensures)))
