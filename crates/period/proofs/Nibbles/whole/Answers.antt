-- An even count is half as many periods; an odd one none.
use borrow.Author.Tests.{eq-eqb, ne_eqb}
use Rattle.period.specs.Period.{whole_of}
use Rattle.period.proofs.Nibbles.whole.Goals as goal

pub returns-then-n-eq0 : goal.returns-then-n-eq0
unfolding whole_of
returns-then-n-eq0 c = simp (eq-eqb _ _ c.if-n-eq0.true)

pub returns : goal.returns
unfolding whole_of
returns c = simp (ne_eqb _ _ c.if-n-eq0.false)
