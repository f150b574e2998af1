-- By the one test.
use borrow.Author.Tests.{le-leb, lt-leb}
use Rattle.settings_typed.specs.RequestWords.{up_to}
use Rattle.settings_typed.proofs.byte.Goals as goal

pub returns-then-n-le255 : goal.returns-then-n-le255
unfolding up_to
returns-then-n-le255 c = simp (le-leb _ _ c.if-n-le255.true)

pub returns : goal.returns
unfolding up_to
returns c = simp (lt-leb _ _ c.if-n-le255.false)
