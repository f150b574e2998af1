-- `repaired` or `clean`, by the test.
use borrow.Author.Rules.{rules}
use Rattle.list_rows.proofs.put_note.Goals as goal

pub returns-then-repaired : goal.returns-then-repaired
returns-then-repaired c = simp c.if-repaired.true c.put.ensures

pub returns-else-repaired : goal.returns-else-repaired
returns-else-repaired c = simp c.if-repaired.false c.put-else-repaired.ensures
