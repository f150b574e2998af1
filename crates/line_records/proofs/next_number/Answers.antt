-- There is a line exactly if there are bytes for one.
use Rattle.line_records.specs.Lines.{none, some}
use Rattle.line_records.proofs.next_number.Goals as goal

pub returns-then-list-lt-LINE : goal.returns-then-list-lt-LINE
returns-then-list-lt-LINE c = none c.if-list-lt-LINE.true

pub returns : goal.returns
returns c = some c.if-list-lt-LINE.false c.number.ensures.0 c.number.ensures.1
