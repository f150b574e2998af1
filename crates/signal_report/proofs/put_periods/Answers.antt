-- The named ones, and the others where there are any.
use Rattle.signal_report.specs.SignalReport.{period_lines}
use Rattle.text.specs.PagesLaws.{next, nothing}
use borrow.Author.Tests.{eq-eqb, ne_eqb}
use borrow.Author.Rules.{rules}
use Rattle.signal_report.proofs.put_periods.Goals as goal

pub returns-then-spacing-eq0 : goal.returns-then-spacing-eq0
unfolding period_lines
returns-then-spacing-eq0 c =
    simp (eq-eqb _ _ c.if-spacing-eq0.true)
    (next c.put_period.ensures (next c.put_period-2.ensures (nothing _)))

pub returns : goal.returns
unfolding period_lines
returns c =
    simp (ne_eqb _ _ c.if-spacing-eq0.false)
    (next c.put_period.ensures (next c.put_period-2.ensures (next c.put.ensures (next c.put_decimal.ensures (next c.put-2.ensures c.put_range.ensures)))))
