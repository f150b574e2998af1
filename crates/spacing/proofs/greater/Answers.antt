-- The test picks the greater.
use borrow.Author.Tests.{lt-ltb, le-ltb}
use Rattle.spacing.specs.Spacing.{greater}
use Rattle.spacing.proofs.greater.Goals as goal

pub returns-then-greatest-n : goal.returns-then-greatest-n
unfolding greater
returns-then-greatest-n c = simp (lt-ltb _ _ c.if-greatest-n.true)

pub returns : goal.returns
unfolding greater
returns c = simp (le-ltb _ _ c.if-greatest-n.false)
