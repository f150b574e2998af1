-- A line by its kind and number; any other answer changes nothing.
use Rattle.coverage.proofs.note.Goals as goal

pub returns-in-Line : goal.returns-in-Line
returns-in-Line c = simp (c.in-Line.is, c.note_line.ensures, c.number.ensures)
