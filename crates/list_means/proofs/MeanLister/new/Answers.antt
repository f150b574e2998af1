-- A fresh reader, as its own function promises, and a buffer of zeros.
use borrow.Author.Rules.{rules}
use Rattle.list_means.proofs.MeanLister.new.Goals as goal

pub returns : goal.returns
returns c = simp c.fresh-reader.ensures
