-- 786 and 942 nibbles have a name, and no other count: one test for each.
use borrow.Author.Tests.{eq-eqb, ne_eqb}
use Rattle.period.specs.Period.{rate_of}
use Rattle.period.proofs.Nibbles.rate.Goals as goal

pub returns-then-n-eq786 : goal.returns-then-n-eq786
unfolding rate_of
returns-then-n-eq786 c = simp (eq-eqb _ _ c.if-n-eq786.true)

pub returns-then-n-eq942 : goal.returns-then-n-eq942
unfolding rate_of
returns-then-n-eq942 c = simp (ne_eqb _ _ c.if-n-eq786.false, eq-eqb _ _ c.if-n-eq942.true)

pub returns : goal.returns
unfolding rate_of
returns c = simp (ne_eqb _ _ c.if-n-eq786.false, ne_eqb _ _ c.if-n-eq942.false)
