-- The word, then the number.
use Rattle.text.specs.PagesLaws.{next}
use Rattle.diff_change_row.specs.ChangeRow.{line_word}
use Rattle.diff_change_row.proofs.put_line.Goals as goal

pub returns : goal.returns
unfolding line_word
returns c = next c.put.ensures c.put_decimal.ensures
