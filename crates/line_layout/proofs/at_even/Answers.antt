-- An odd place has the filler, an even one the rule given: the test here is the one of the definition.
use Prim.Native.Nat.{◌%◌}
use borrow.Author.Tests.{eq-eqb, ne_eqb}
use Rattle.line_layout.proofs.at_even.Goals as goal

pub returns-then-place-eq1 : goal.returns-then-place-eq1
returns-then-place-eq1 c = simp (eq-eqb (c.args.place % 2) 1 c.if-place-eq1.true)

pub returns : goal.returns
returns c = simp (ne_eqb (c.args.place % 2) 1 c.if-place-eq1.false)
