-- The three parts of the row, one after another.
use Rattle.text.specs.PagesLaws.{next}
use Rattle.mean_rows.specs.MeanRows.{given_row}
use borrow.Author.Rules.{rules}
use Rattle.mean_rows.proofs.put_given.Goals as goal

pub returns : goal.returns
unfolding given_row
returns c =
    next c.put_start.ensures (next c.put_means.ensures c.put_differences.ensures)
