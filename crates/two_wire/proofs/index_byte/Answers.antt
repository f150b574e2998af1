-- An index up to 127 leaves the top bit free, so index and flag together are a byte.
use borrow.Author.Rules.{rules}
use Rattle.two_wire.proofs.index_byte.Goals as goal

pub returns-then-increment : goal.returns-then-increment
returns-then-increment c = simp c.if-increment.true
