-- A u16 is far below 2 ^ 53, so the division by 64 loses nothing.
use native.Mathlib.Nat.{lt_of_lt_of_le}
use lib.Dec.{lit≤}
use lib.Ieee.{of_int}
use Rattle.half_means.specs.Sixtyfourths.{divided}
use Rattle.half_means.proofs.mean.Goals as goal

pub returns : goal.returns
unfolding of_int
returns c = divided c.args.sum (lt_of_lt_of_le c.ranges.sum.fits (lit≤ tt))
