-- A fresh reader and nothing found, each as its own function promises.
use borrow.Author.Rules.{rules}
use Rattle.list_frames.proofs.FrameLister.new.Goals as goal

pub returns : goal.returns
returns c = simp (c.new-findings.ensures, c.fresh-reader.ensures)
