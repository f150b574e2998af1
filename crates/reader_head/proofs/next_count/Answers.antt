-- Below its stop the count goes up by one; at the stop it stays.
use borrow.Author.Tests.{lt-ltb, le-ltb}
use Rattle.reader_head.specs.Head.{bump}
use Rattle.reader_head.proofs.next_count.Goals as goal

pub returns-then-count-lt-COUNT_STOP : goal.returns-then-count-lt-COUNT_STOP
unfolding bump
returns-then-count-lt-COUNT_STOP c = simp (lt-ltb _ _ c.if-count-lt-COUNT_STOP.true)

pub returns : goal.returns
unfolding bump
returns c = simp (le-ltb _ _ c.if-count-lt-COUNT_STOP.false)
