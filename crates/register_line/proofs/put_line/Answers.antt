-- The word, the number and a colon, one after another.
use Rattle.text.specs.PagesLaws.{next}
use Rattle.register_line.specs.Line.{line_head}
use Rattle.register_line.proofs.put_line.Goals as goal

pub returns : goal.returns
unfolding line_head
returns c =
    next c.put.ensures (next c.put_decimal.ensures c.put-2.ensures)
