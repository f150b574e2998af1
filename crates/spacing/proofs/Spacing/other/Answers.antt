-- One more, with the least and the greatest.
use borrow.Author.Rules.{rules}
use Rattle.spacing.proofs.Spacing.other.Goals as goal

pub returns : goal.returns
returns c = simp (c.one_more.ensures, c.lesser.ensures, c.greater.ensures)
