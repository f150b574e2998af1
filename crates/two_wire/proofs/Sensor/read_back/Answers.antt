-- The second byte is compared with the index and flag held, as index_byte has them: 26 where it differs, else the data decides.
use borrow.Author.Tests.{eq-eqb, ne_eqb}
use Rattle.two_wire.specs.Messages.{read_back, refuse_if}
use borrow.Author.Rules.{rules}
use Rattle.two_wire.proofs.Sensor.read_back.Goals as goal

pub returns-then-second-expected : goal.returns-then-second-expected
unfolding read_back refuse_if
returns-then-second-expected c = simp (← c.index_byte-expected.ensures, eq-eqb _ _ c.if-second-expected.true) c.read_data.ensures

pub returns : goal.returns
unfolding read_back refuse_if
returns c = simp (← c.index_byte-expected.ensures, ne_eqb _ _ c.if-second-expected.false) c.refused.ensures
