-- By the period's name; 0 is no period.
use borrow.Author.Tests.{eq-eqb, ne_eqb}
use Rattle.spacing.specs.Spacing.{with_period}
use borrow.Author.Rules.{rules}
use Rattle.spacing.proofs.Spacing.with.Goals as goal

pub returns-then-period-eq0 : goal.returns-then-period-eq0
unfolding with_period
returns-then-period-eq0 c = simp (eq-eqb _ _ c.if-period-eq0.true)

pub returns-in-Thirty : goal.returns-in-Thirty
unfolding with_period
returns-in-Thirty c = simp (ne_eqb _ _ c.if-period-eq0.false, ← c.rate-rate.ensures, c.in-Thirty.is, c.thirty_more.ensures)

pub returns-in-TwentyFive : goal.returns-in-TwentyFive
unfolding with_period
returns-in-TwentyFive c = simp (ne_eqb _ _ c.if-period-eq0.false, ← c.rate-rate.ensures, c.in-TwentyFive.is, c.twenty_five_more.ensures)

pub returns-in-Unnamed : goal.returns-in-Unnamed
unfolding with_period
returns-in-Unnamed c = simp (ne_eqb _ _ c.if-period-eq0.false, ← c.rate-rate.ensures, c.in-Unnamed.is, c.other.ensures)
