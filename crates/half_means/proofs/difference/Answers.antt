-- Both numbers are below 2 ^ 30, so the i32 holds their difference.
use Prim.Native.Nat.{◌*◌}
use native.Mathlib.Omega.{arith}
use Rattle.half_means.specs.HalfMeans.{difference}
use Rattle.half_means.proofs.Signs.{minus_fits, minus_is}
use Rattle.half_means.proofs.difference.Goals as goal

pub overflow_sub-result : goal.overflow_sub-result
overflow_sub-result c = minus_fits (64 * c.args.byte) c.args.sum (omega (arith, c.ranges.byte.fits)) (omega (arith, c.ranges.sum.fits))

pub returns : goal.returns
unfolding difference
returns c = minus_is (64 * c.args.byte) c.args.sum (omega (arith, c.ranges.byte.fits)) (omega (arith, c.ranges.sum.fits))
