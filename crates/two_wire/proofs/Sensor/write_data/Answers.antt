-- 28 where data would pass 127; where it does not, all of it is stored, and the index left is that behind it.
use mathlib.Core.Path.{refl}
use Rattle.message_data.specs.Registers.{stored_whole}
use Rattle.two_wire.specs.Messages.{write_data, refuse_if}
use borrow.Author.Rules.{rules}
use Rattle.two_wire.proofs.Sensor.write_data.Goals as goal

pub returns-then-store : goal.returns-then-store
unfolding write_data refuse_if
returns-then-store c = simp (← c.store.ensures.0, c.if-store.true) c.refused.ensures

pub returns-else-store : goal.returns-else-store
unfolding write_data refuse_if stored_whole
returns-else-store c = simp (c.accepted.ensures, ← c.store.ensures.0, c.if-store.false, c.left.ensures, c.store.ensures.1) (refl, refl)
