-- Only a frame that was cut off is counted.
use borrow.Author.Rules.{rules}
use Rattle.findings.proofs.with_cut.Goals as goal

pub returns-in-Cut : goal.returns-in-Cut
returns-in-Cut c = simp (c.in-Cut.is, c.one_more.ensures)
