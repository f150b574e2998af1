-- Whether a name is awaited, then word by word.
use Rattle.command_words.specs.Asked.{with_word}
use borrow.Author.Rules.{rules}
use Rattle.command_words.proofs.Asked.with.Goals as goal

pub returns-then-awaited : goal.returns-then-awaited
unfolding with_word
returns-then-awaited c = simp (c.if-awaited.true, c.after_dash.ensures)

pub returns-in-Sensor : goal.returns-in-Sensor
unfolding with_word
returns-in-Sensor c = simp (c.if-awaited.false, c.in-Sensor.is, c.with_sensor.ensures)

pub returns-in-OddPixelsFirst : goal.returns-in-OddPixelsFirst
unfolding with_word
returns-in-OddPixelsFirst c = simp (c.if-awaited.false, c.in-OddPixelsFirst.is, c.with_odd.ensures)

pub returns-in-Output : goal.returns-in-Output
unfolding with_word
returns-in-Output c = simp (c.if-awaited.false, c.in-Output.is, c.with_output.ensures)

pub returns-in-Unknown : goal.returns-in-Unknown
unfolding with_word
returns-in-Unknown c = simp (c.if-awaited.false, c.in-Unknown.is, c.not_understood.ensures)

pub returns-in-Mark : goal.returns-in-Mark
unfolding with_word
returns-in-Mark c = simp (c.if-awaited.false, c.in-Mark.is, c.with_mark.ensures)

pub returns-in-Name : goal.returns-in-Name
unfolding with_word
returns-in-Name c = simp (c.if-awaited.false, c.in-Name.is, c.with_name.ensures)
