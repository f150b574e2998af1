-- The two differences, a space between them, and the row's end.
use Rattle.text.specs.PagesLaws.{next}
use Rattle.mean_rows.specs.MeanRows.{differences_words}
use borrow.Author.Rules.{rules}
use Rattle.mean_rows.proofs.put_differences.Goals as goal

pub returns : goal.returns
unfolding differences_words
returns c =
    next c.put_difference.ensures (next c.put.ensures (next c.put_difference-2.ensures c.put-2.ensures))
