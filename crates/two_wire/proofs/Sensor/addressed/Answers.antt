-- The first byte decides: a write's data from the index in the second byte on, a read of the state held, or 25.
use borrow.Author.Tests.{eq-eqb, ne_eqb}
use Rattle.two_wire.specs.Messages.{addressed}
use borrow.Author.Rules.{rules}
use Rattle.two_wire.proofs.Sensor.addressed.Goals as goal

pub returns-then-address-eq-WRITE_ADDRESS : goal.returns-then-address-eq-WRITE_ADDRESS
unfolding addressed
returns-then-address-eq-WRITE_ADDRESS c = simp (eq-eqb _ _ c.if-address-eq-WRITE_ADDRESS.true) c.write_data.ensures

pub returns-then-address-eq-READ_ADDRESS : goal.returns-then-address-eq-READ_ADDRESS
unfolding addressed
returns-then-address-eq-READ_ADDRESS c = simp (ne_eqb _ _ c.if-address-eq-WRITE_ADDRESS.false, eq-eqb _ _ c.if-address-eq-READ_ADDRESS.true) c.read_back.ensures

pub returns : goal.returns
unfolding addressed
returns c = simp (ne_eqb _ _ c.if-address-eq-WRITE_ADDRESS.false, ne_eqb _ _ c.if-address-eq-READ_ADDRESS.false) c.refused.ensures
