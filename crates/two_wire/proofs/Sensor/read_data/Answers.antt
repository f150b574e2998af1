-- 27 where a byte differs, then 28 where data passes 127; else the registers stay, and the index left is that behind the data.
use mathlib.Core.Path.{refl}
use Rattle.two_wire.specs.Messages.{read_data, refuse_if}
use borrow.Author.Rules.{rules}
use Rattle.two_wire.proofs.Sensor.read_data.Goals as goal

pub returns-then-different : goal.returns-then-different
unfolding read_data refuse_if
returns-then-different c = simp (← c.some_differs-different.ensures, c.if-different.true) c.refused.ensures

pub returns-then-past : goal.returns-then-past
unfolding read_data refuse_if
returns-then-past c = simp (← c.some_differs-different.ensures, c.if-different.false, ← c.runs_past-past.ensures, c.if-past.true) c.refused-then-past.ensures

pub returns : goal.returns
unfolding read_data refuse_if
returns c = simp (c.accepted.ensures, ← c.some_differs-different.ensures, c.if-different.false, ← c.runs_past-past.ensures, c.if-past.false, c.left.ensures) (refl, refl)
