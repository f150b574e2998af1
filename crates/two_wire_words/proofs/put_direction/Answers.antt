-- `WRITE ` or `READ `, by the test of the address.
use borrow.Author.Tests.{eq-eqb, ne_eqb}
use borrow.Author.Rules.{rules}
use Rattle.two_wire_words.specs.Words.{direction_word}
use Rattle.two_wire_words.proofs.put_direction.Goals as goal

pub returns-then-address-eq-WRITE_ADDRESS : goal.returns-then-address-eq-WRITE_ADDRESS
unfolding direction_word
returns-then-address-eq-WRITE_ADDRESS c = simp (eq-eqb _ _ c.if-address-eq-WRITE_ADDRESS.true) c.put.ensures

pub returns-else-address-eq-WRITE_ADDRESS : goal.returns-else-address-eq-WRITE_ADDRESS
unfolding direction_word
returns-else-address-eq-WRITE_ADDRESS c = simp (ne_eqb _ _ c.if-address-eq-WRITE_ADDRESS.false) c.put-else-address-eq-WRITE_ADDRESS.ensures
