-- Below place 178 it is pixel 2j + 1, from there on twice what is above 178, by the paper's test; below 356 nothing overflows.
use borrow.Author.Tests.{lt-ltb, le-ltb}
use Rattle.pixel_order.specs.PixelOrder.{pixel_at}
use Rattle.pixel_order.proofs.pixel_at.Goals as goal

pub returns-then-j-lt-HALF : goal.returns-then-j-lt-HALF
unfolding pixel_at
returns-then-j-lt-HALF c = simp (lt-ltb _ _ c.if-j-lt-HALF.true)

pub returns : goal.returns
unfolding pixel_at
returns c = simp (le-ltb _ _ c.if-j-lt-HALF.false)
