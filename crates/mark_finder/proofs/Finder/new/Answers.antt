-- A fresh reader, and nothing found.
use borrow.Author.Rules.{rules}
use Rattle.mark_finder.proofs.Finder.new.Goals as goal

pub returns : goal.returns
returns c = simp c.fresh-reader.ensures
