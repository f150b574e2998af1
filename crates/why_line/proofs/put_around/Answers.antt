-- By whether there is a bad place, and a byte there.
use borrow.Author.Tests.{lt-ltb, le-ltb}
use Rattle.text.specs.PagesLaws.{next, nothing}
use Rattle.why_line.specs.ReasonText.{around_words}
use Rattle.why_line.proofs.put_around.Goals as goal

pub returns-then-n-bytes : goal.returns-then-n-bytes
unfolding around_words
returns-then-n-bytes c =
    simp (lt-ltb _ _ c.if-bad-gt0.true, ← c.nibbles_before.ensures.0, lt-ltb _ _ c.if-n-bytes.true)
    (next c.put.ensures c.put_bytes_around.ensures)

pub returns-else-n-bytes : goal.returns-else-n-bytes
unfolding around_words
returns-else-n-bytes c = simp (lt-ltb _ _ c.if-bad-gt0.true, ← c.nibbles_before.ensures.0, le-ltb _ _ c.if-n-bytes.false) (nothing _)

pub returns-else-bad-gt0 : goal.returns-else-bad-gt0
unfolding around_words
returns-else-bad-gt0 c = simp (le-ltb _ _ c.if-bad-gt0.false) (nothing _)
