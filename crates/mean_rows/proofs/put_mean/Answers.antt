-- The whole part, the point, and the fraction's six digits.
use Rattle.text.specs.PagesLaws.{next}
use Rattle.mean_rows.specs.MeanRows.{mean_text}
use borrow.Author.Rules.{rules}
use Rattle.mean_rows.proofs.put_mean.Goals as goal

pub returns : goal.returns
unfolding mean_text
returns c =
    next c.put_decimal.ensures (next c.put.ensures c.put_places.ensures)
