-- The two means, with a space after each.
use Rattle.text.specs.PagesLaws.{next}
use Rattle.mean_rows.specs.MeanRows.{means_words}
use borrow.Author.Rules.{rules}
use Rattle.mean_rows.proofs.put_means.Goals as goal

pub returns : goal.returns
unfolding means_words
returns c =
    next c.put_mean.ensures (next c.put.ensures (next c.put_mean-2.ensures c.put-2.ensures))
