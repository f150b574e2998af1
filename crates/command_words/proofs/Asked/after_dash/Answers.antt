-- Word by word.
use borrow.Author.Rules.{rules}
use Rattle.command_words.proofs.Asked.after_dash.Goals as goal

pub returns-in-Sensor : goal.returns-in-Sensor
returns-in-Sensor c = simp (c.in-Sensor.is, c.with_output_name.ensures)

pub returns-in-OddPixelsFirst : goal.returns-in-OddPixelsFirst
returns-in-OddPixelsFirst c = simp (c.in-OddPixelsFirst.is, c.with_output_name-in-OddPixelsFirst.ensures)

pub returns-in-Output : goal.returns-in-Output
returns-in-Output c = simp (c.in-Output.is, c.not_understood.ensures)

pub returns-in-Unknown : goal.returns-in-Unknown
returns-in-Unknown c = simp (c.in-Unknown.is, c.with_output_name-in-Unknown.ensures)

pub returns-in-Mark : goal.returns-in-Mark
returns-in-Mark c = simp (c.in-Mark.is, c.with_output_name-in-Mark.ensures)

pub returns-in-Name : goal.returns-in-Name
returns-in-Name c = simp (c.in-Name.is, c.with_output_name-in-Name.ensures)
