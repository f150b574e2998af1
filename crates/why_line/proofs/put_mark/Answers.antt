-- The number and the place, with their words.
use Rattle.text.specs.PagesLaws.{next}
use Rattle.why_line.specs.ReasonText.{mark_words}
use Rattle.why_line.proofs.put_mark.Goals as goal

pub returns : goal.returns
unfolding mark_words
returns c =
    next c.put.ensures (next c.put_decimal.ensures (next c.put-2.ensures (next c.put_decimal-2.ensures c.put-3.ensures)))
