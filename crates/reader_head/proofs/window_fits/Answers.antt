-- By whether a mark is open: each case is its own call.
use Rattle.reader_head.proofs.window_fits.Goals as goal

pub returns-in-NoMark : goal.returns-in-NoMark
returns-in-NoMark c = simp (c.in-NoMark.is, c.unmarked_fits.ensures)

pub returns-in-Open : goal.returns-in-Open
returns-in-Open c = simp (c.in-Open.is, c.marked_fits.ensures c.in-Open.field-0)
