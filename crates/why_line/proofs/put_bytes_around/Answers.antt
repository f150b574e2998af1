-- The bytes before, those in brackets, and the bytes after, one after another.
use Rattle.text.specs.PagesLaws.{next}
use Rattle.why_line.specs.ReasonText.{around_bad}
use Rattle.why_line.proofs.put_bytes_around.Goals as goal

pub returns : goal.returns
unfolding around_bad
returns c =
    simp (← c.lesser.ensures, ← c.lesser-end.ensures, ← c.lesser-to.ensures)
    (next c.put_bytes.ensures
    (next c.put.ensures (next c.put_hex.ensures (next c.put_bytes-2.ensures (next c.put-2.ensures c.put_bytes-3.ensures)))))
