-- After i turns the sum is that of the first i bytes, at most 255 times i, so it fits.
use mathlib.Core.Path.{◌≡◌}
use Prim.Native.Nat.{◌+◌, ◌*◌, ◌≤◌}
use lib.ListN.{drop}
use Rattle.half_means.specs.HalfMeans.{total}
use Rattle.half_means.proofs.total.Given as goal

abbrev pub invariant-loop-byte : goal.invariant-loop-byte
invariant-loop-byte l = (l.sum + total (drop l.byte-index l.half) ≡ total l.half) × (l.sum ≤ 255 * l.byte-index)
