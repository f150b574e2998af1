-- The text of the outcome that the sensor's reading gave, by the match on its answer.
use Rattle.two_wire_text.proofs.read_message.Goals as goal

pub returns-in-Ok : goal.returns-in-Ok
returns-in-Ok c =
    let read = c.read-seen.ensures in
    (read.1, simp (← read.0, c.in-Ok.is) c.put_accepted-length.ensures)

pub returns-in-Err : goal.returns-in-Err
returns-in-Err c =
    let read = c.read-seen.ensures in
    (read.1, simp (← read.0, c.in-Err.is) c.put_refused-length.ensures)
