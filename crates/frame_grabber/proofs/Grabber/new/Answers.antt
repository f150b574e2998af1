-- A fresh profile 0 reader and a fresh gatherer, each as its own function promises.
use borrow.Author.Rules.{rules}
use Rattle.frame_grabber.proofs.Grabber.new.Goals as goal

pub returns : goal.returns
returns c = simp (c.fresh-reader.ensures, c.new-gatherer.ensures)
