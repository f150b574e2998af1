-- At each turn one block more is at its place.
use mathlib.Core.Path.{◌≡◌}
use Prim.Native.Nat.{◌*◌}
use lib.ListN.{length}
use Rattle.run_ahead.specs.Blocks.{packed_into}
use Rattle.run_ahead.proofs.pack.Given as goal

abbrev pub invariant-loop-block : goal.invariant-loop-block
invariant-loop-block l = (l.body ≡ packed_into l.initial.body l.j l.s l.i (16 * l.block)) × (length l.body ≡ length l.initial.body)
