-- The two tests in their order.
use borrow.Author.Tests.{lt-ltb, le-ltb}
use Rattle.lister_laws.proofs.goes_on.Goals as goal

pub returns-then-at-bytes : goal.returns-then-at-bytes
returns-then-at-bytes c = simp (lt-ltb _ _ c.if-at-bytes.true)

pub returns : goal.returns
returns c = simp (le-ltb _ _ c.if-at-bytes.false)
