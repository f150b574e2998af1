-- The registers below 5 stay as they are; any other is set, and an index up to 127 has one.
use borrow.Author.Tests.{lt-ltb, le-ltb}
use Rattle.message_data.specs.Registers.{put}
use Rattle.message_data.proofs.put.Goals as goal

pub returns-then-index-lt-FIRST_SETTABLE : goal.returns-then-index-lt-FIRST_SETTABLE
unfolding put
returns-then-index-lt-FIRST_SETTABLE c = simp (lt-ltb _ _ c.if-index-lt-FIRST_SETTABLE.true)

pub returns : goal.returns
unfolding put
returns c = simp (le-ltb _ _ c.if-index-lt-FIRST_SETTABLE.false)
