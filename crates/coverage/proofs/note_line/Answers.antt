-- A cell of the table gets a 1; behind it there is none.
use borrow.Author.Tests.{lt-ltb, le-ltb}
use Rattle.coverage.specs.Coverage.{with_line}
use Rattle.coverage.proofs.note_line.Goals as goal

pub returns-then-cell-came : goal.returns-then-cell-came
unfolding with_line
returns-then-cell-came c = simp (← c.cell_of-cell.ensures, lt-ltb _ _ c.if-cell-came.true)

pub returns-else-cell-came : goal.returns-else-cell-came
unfolding with_line
returns-else-cell-came c = simp (← c.cell_of-cell.ensures, le-ltb _ _ c.if-cell-came.false)
