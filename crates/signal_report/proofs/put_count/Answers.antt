-- A count of 0 puts nothing; else the words, the count, the words.
use Rattle.signal_report.specs.SignalReport.{count_line}
use Rattle.text.specs.PagesLaws.{next, nothing}
use borrow.Author.Tests.{eq-eqb, ne_eqb}
use borrow.Author.Rules.{rules}
use Rattle.signal_report.proofs.put_count.Goals as goal

pub returns-then-count-eq0 : goal.returns-then-count-eq0
unfolding count_line
returns-then-count-eq0 c =
    simp (eq-eqb _ _ c.if-count-eq0.true) (nothing _)

pub returns : goal.returns
unfolding count_line
returns c =
    simp (ne_eqb _ _ c.if-count-eq0.false)
    (next c.put.ensures (next c.put_decimal.ensures c.put-2.ensures))
