-- One more of these.
use borrow.Author.Rules.{rules}
use Rattle.spacing.proofs.Spacing.twenty_five_more.Goals as goal

pub returns : goal.returns
returns c = simp c.one_more.ensures
