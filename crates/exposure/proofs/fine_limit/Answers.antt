-- The one rate with a limit of its own is tested.
use borrow.Author.Tests.{eq-eqb, ne_eqb}
use Rattle.exposure.specs.Exposure.{fine_limit}
use Rattle.exposure.proofs.fine_limit.Goals as goal

pub returns-then-rate-eq-RATE_30 : goal.returns-then-rate-eq-RATE_30
unfolding fine_limit
returns-then-rate-eq-RATE_30 c = simp (eq-eqb _ _ c.if-rate-eq-RATE_30.true)

pub returns : goal.returns
unfolding fine_limit
returns c = simp (ne_eqb _ _ c.if-rate-eq-RATE_30.false)
