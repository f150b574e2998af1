-- Each count by its own test.
use Rattle.period_faults.specs.PeriodFaults.{with_period}
use borrow.Author.Rules.{rules}
use Rattle.period_faults.proofs.PeriodFaults.with.Goals as goal

pub returns : goal.returns
unfolding with_period
returns c = simp (c.counted_if-long.ensures, c.is_long.ensures, c.counted_if-odd.ensures, c.is_odd.ensures)
