-- The bytes first into the array, then from there into the body.
use mathlib.Core.Path.{◌≡◌}
use Prim.Native.Nat.{ℕ, ◌+◌, ◌*◌, ◌<◌}
use lib.ListN.{length, get_or}
use Rattle.run_ahead.specs.Blocks.{byte_from}
use Rattle.run_ahead.proofs.pack_block.Given as goal

abbrev pub invariant-loop-k : goal.invariant-loop-k
invariant-loop-k l = (length l.to ≡ 16) × ((x : ℕ) → x < l.k → get_or l.to x 0 ≡ byte_from l.s (l.i + 2 * x))
