-- The open mark, with what the reader answers at the end.
use borrow.Author.Rules.{rules}
use Rattle.mark_finder.proofs.Finder.finish.Goals as goal

pub returns : goal.returns
returns c = simp (c.locate.ensures, c.finish-fed.ensures.says)
