-- By the one test.
use borrow.Author.Tests.{le-leb, lt-leb}
use Rattle.settings_typed.specs.RequestWords.{up_to}
use Rattle.settings_typed.proofs.short.Goals as goal

pub returns-then-n-le-GREATEST : goal.returns-then-n-le-GREATEST
unfolding up_to
returns-then-n-le-GREATEST c = simp (le-leb _ _ c.if-n-le-GREATEST.true)

pub returns : goal.returns
unfolding up_to
returns c = simp (lt-leb _ _ c.if-n-le-GREATEST.false)
