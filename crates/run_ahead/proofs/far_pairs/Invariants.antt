-- At each turn the pairs that are passed can be taken.
use Prim.Native.Nat.{◌*◌}
use Rattle.run_ahead.specs.Blocks.{FarOn}
use Rattle.run_ahead.proofs.far_pairs.Given as goal

abbrev pub invariant-loop-block : goal.invariant-loop-block
invariant-loop-block l = FarOn l.window l.stray l.s l.from l.end (16 * l.block)
