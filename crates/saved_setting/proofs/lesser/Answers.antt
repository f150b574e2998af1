-- The one test of the definition.
use borrow.Author.Tests.{le-leb, lt-leb}
use Rattle.saved_setting.specs.SavedSettings.{lesser}
use Rattle.saved_setting.proofs.lesser.Goals as goal

pub returns-then-n-limit : goal.returns-then-n-limit
unfolding lesser
returns-then-n-limit c = simp (le-leb _ _ c.if-n-limit.true)

pub returns : goal.returns
unfolding lesser
returns c = simp (lt-leb _ _ c.if-n-limit.false)
