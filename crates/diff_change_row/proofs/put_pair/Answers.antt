-- Both numbers with their words, one after another.
use Rattle.text.specs.PagesLaws.{next}
use Rattle.diff_change_row.specs.ChangeRow.{pair_words}
use Rattle.diff_change_row.proofs.put_pair.Goals as goal

pub returns : goal.returns
unfolding pair_words
returns c =
    next c.put.ensures (next c.put_decimal.ensures (next c.put-2.ensures (next c.put_decimal-2.ensures c.put-3.ensures)))
