-- A fresh reader, as its own function promises.
use borrow.Author.Rules.{rules}
use Rattle.list_marks.proofs.MarkLister.new.Goals as goal

pub returns : goal.returns
returns c = simp c.fresh-reader.ensures
