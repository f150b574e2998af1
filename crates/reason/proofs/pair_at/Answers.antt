-- Two nibbles make a byte, since neither is above 15.
use Prim.Native.Nat.{◌+◌}
use Rattle.reason.proofs.Steps.{nibble_small}
use Rattle.reason.proofs.pair_at.Goals as goal

pub joined-requires : goal.joined-requires
joined-requires c = (nibble_small c.args.text.now c.requires.0 c.args.i, nibble_small c.args.text.now c.requires.0 (c.args.i + 1))
