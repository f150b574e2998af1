-- A number only where both bytes pass the test of a number byte; its value is the same sum with the factors in another order.
use Rattle.std.specs.Prelude.{Some}
use mathlib.Core.Path.{ap}
use native.Mathlib.Omega.{arith}
use borrow.Author.Rules.{rules}
use Rattle.line_number.proofs.decode.Goals as goal

pub returns-then-is_good-2 : goal.returns-then-is_good-2
returns-then-is_good-2 c = simp (← c.is_good.ensures, ← c.is_good-then-is_good.ensures, c.if-is_good.true, c.if-is_good-2.true) (ap Some (omega arith))

pub returns-else-is_good-2 : goal.returns-else-is_good-2
returns-else-is_good-2 c = simp (← c.is_good.ensures, ← c.is_good-then-is_good.ensures, c.if-is_good.true, c.if-is_good-2.false)

pub returns-else-is_good : goal.returns-else-is_good
returns-else-is_good c = simp (← c.is_good.ensures, c.if-is_good.false)
