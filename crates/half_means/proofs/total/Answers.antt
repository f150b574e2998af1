-- After i turns the sum is that of the first i bytes, at most 255 times i, so it fits.
use native.Mathlib.Omega.{arith}
use borrow.Author.Rules.{rules}
use Rattle.half_means.proofs.Adding.{total_step, total_end}
use Rattle.half_means.proofs.total.Goals as goal

pub loop-byte-init : goal.loop-byte-init
loop-byte-init c = (omega arith, omega arith)

pub loop-byte-preserved : goal.loop-byte-preserved
loop-byte-preserved c =
    let l = c.loop-byte in
    let t = c.loop-byte-test.true in
    (omega (arith, total_step c.args.half.now l.byte-index t, l.invariant.0), search rules)

pub returns : goal.returns
returns c =
    omega (arith, total_end c.args.half.now c.loop-byte.byte-index c.loop-byte-test.false, c.loop-byte.invariant.0)
