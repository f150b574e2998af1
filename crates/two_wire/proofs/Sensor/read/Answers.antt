-- The tests come in the paper's order: held index, length; two bytes or more are an address, a second byte and data.
use borrow.Author.Tests.{lt-leb, le-leb}
use Rattle.two_wire.specs.Messages.{message_on, refuse_if}
use Rattle.two_wire.specs.MessageLaws.{too_short, three_parts, rest}
use borrow.Author.Rules.{rules}
use Rattle.two_wire.proofs.Sensor.read.Goals as goal

pub returns-then-index-gt-LAST_INDEX : goal.returns-then-index-gt-LAST_INDEX
unfolding message_on refuse_if
returns-then-index-gt-LAST_INDEX c = simp (lt-leb _ _ c.if-index-gt-LAST_INDEX.true) c.refused.ensures

pub returns-then-message-lt2 : goal.returns-then-message-lt2
unfolding message_on refuse_if
returns-then-message-lt2 c = let a = c.args in
    simp (le-leb _ _ c.if-index-gt-LAST_INDEX.false, too_short a.self a.message.now c.if-message-lt2.true) c.refused-then-message-lt2.ensures

pub returns : goal.returns
unfolding message_on refuse_if
returns c =
    let a = c.args in
    simp (le-leb _ _ c.if-index-gt-LAST_INDEX.false, three_parts a.self a.message.now c.if-message-lt2.false) (rw (rest a.message.now) at c.addressed.ensures)
