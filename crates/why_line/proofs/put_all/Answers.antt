-- The mark, the reason, the bytes around the bad place, and the end of the line.
use Rattle.text.specs.PagesLaws.{next}
use Rattle.why_line.specs.ReasonText.{mark_line}
use Rattle.why_line.proofs.put_all.Goals as goal

pub returns : goal.returns
unfolding mark_line
returns c =
    simp (← c.reason_in-why.ensures, ← c.code_in-code.ensures, ← c.bad_place-bad.ensures.0)
    (next c.put_mark.ensures (next c.put_explained.ensures (next c.put_around.ensures c.put.ensures)))
