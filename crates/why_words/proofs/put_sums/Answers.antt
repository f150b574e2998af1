-- The four sums, one after another.
use Rattle.text.specs.PagesLaws.{next}
use Rattle.why_words.specs.ReasonWords.{sum_words}
use borrow.Author.Rules.{rules}
use Rattle.why_words.proofs.put_sums.Goals as goal

pub returns : goal.returns
unfolding sum_words
returns c =
    next c.put_if.ensures (next c.put_if-2.ensures (next c.put_if-3.ensures c.put_if-4.ensures))
