-- Below register 5 nothing is compared; from there on the register decides, since an index up to 127 has one.
use borrow.Author.Tests.{lt-ltb, le-ltb, lt-leb}
use Rattle.message_data.specs.Registers.{differs}
use Rattle.message_data.proofs.differs.Goals as goal

pub returns-then-index-ge-FIRST_SETTABLE : goal.returns-then-index-ge-FIRST_SETTABLE
unfolding differs
returns-then-index-ge-FIRST_SETTABLE c = simp (le-ltb _ _ c.if-index-ge-FIRST_SETTABLE.true, le-ltb 127 c.args.index c.requires)

pub returns-else-index-ge-FIRST_SETTABLE : goal.returns-else-index-ge-FIRST_SETTABLE
unfolding differs
returns-else-index-ge-FIRST_SETTABLE c = simp (lt-ltb _ _ c.if-index-ge-FIRST_SETTABLE.false, lt-leb _ _ c.if-index-ge-FIRST_SETTABLE.false)
