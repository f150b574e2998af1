-- Nothing where nothing is out of order, where a line was read, or no mark; else the other sensor's line.
use Rattle.verdict_report.specs.Report.{hint_line}
use Rattle.text.specs.PagesLaws.{nothing}
use borrow.Author.Tests.{lt-ltb, le-ltb}
use borrow.Author.Rules.{rules}
use Rattle.verdict_report.proofs.put_hint.Goals as goal

pub returns-then-ordered : goal.returns-then-ordered
unfolding hint_line
returns-then-ordered c = simp c.if-ordered.true (nothing _)

pub returns-then-signal-gt0 : goal.returns-then-signal-gt0
unfolding hint_line
returns-then-signal-gt0 c = simp (c.if-ordered.false, lt-ltb _ _ c.if-signal-gt0.true) (nothing _)

pub returns-in-Unseen : goal.returns-in-Unseen
unfolding hint_line
returns-in-Unseen c =
    simp (c.if-ordered.false, le-ltb _ _ c.if-signal-gt0.false, c.in-Unseen.is) (nothing _)

pub returns-in-InsideLine : goal.returns-in-InsideLine
unfolding hint_line
returns-in-InsideLine c =
    simp (c.if-ordered.false, le-ltb _ _ c.if-signal-gt0.false, c.in-InsideLine.is) c.put_other_sensor.ensures

pub returns-in-Other : goal.returns-in-Other
unfolding hint_line
returns-in-Other c =
    simp (c.if-ordered.false, le-ltb _ _ c.if-signal-gt0.false, c.in-Other.is) c.put_other_sensor-in-Other.ensures
