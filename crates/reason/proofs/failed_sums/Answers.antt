-- Each sum is that of the definition: bit 0 is the byte over 1.
use mathlib.Core.Path.{◌≡◌}
use Prim.Native.Nat.{◌/◌}
use native.Mathlib.Omega.{arith}
use Rattle.reason.specs.Sums.{failed_sums}
use Rattle.reason.proofs.failed_sums.Goals as goal

pub returns : goal.returns
unfolding failed_sums
returns c =
    let e : c.args.byte / 1 ≡ c.args.byte = omega arith in
    simp e
