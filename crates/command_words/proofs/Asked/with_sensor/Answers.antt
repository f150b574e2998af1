-- A sensor stands already, or does not.
use Rattle.command_words.specs.Asked.{sensor_asked}
use borrow.Author.Rules.{rules}
use Rattle.command_words.proofs.Asked.with_sensor.Goals as goal

pub returns-then-self : goal.returns-then-self
unfolding sensor_asked
returns-then-self c = simp (c.if-self.true, c.not_understood.ensures)

pub returns : goal.returns
unfolding sensor_asked
returns c = simp c.if-self.false
