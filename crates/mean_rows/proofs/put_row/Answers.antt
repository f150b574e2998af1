-- The row of either answer, by the match.
use Rattle.mean_rows.specs.MeanRows.{means_row}
use borrow.Author.Rules.{rules}
use Rattle.mean_rows.proofs.put_row.Goals as goal

pub returns-in-Ok : goal.returns-in-Ok
unfolding means_row
returns-in-Ok c = simp c.in-Ok.is c.put_given.ensures

pub returns-in-Err : goal.returns-in-Err
unfolding means_row
returns-in-Err c = simp c.in-Err.is c.put_refused.ensures
