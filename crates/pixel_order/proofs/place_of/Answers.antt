-- An odd pixel is at place (i - 1) / 2, an even one at 178 + i / 2, by the paper's test; after halving the sum cannot overflow.
use borrow.Author.Tests.{eq-eqb, ne_eqb}
use Rattle.pixel_order.specs.PixelOrder.{place_of}
use Rattle.pixel_order.proofs.place_of.Goals as goal

pub returns-then-i-eq1 : goal.returns-then-i-eq1
unfolding place_of
returns-then-i-eq1 c = simp (eq-eqb _ 1 c.if-i-eq1.true)

pub returns : goal.returns
unfolding place_of
returns c = simp (ne_eqb _ 1 c.if-i-eq1.false)
