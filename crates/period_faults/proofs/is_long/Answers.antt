-- Compared with the longest.
use borrow.Author.Rules.{rules}
use Rattle.period_faults.proofs.is_long.Goals as goal

pub returns : goal.returns
returns c = simp c.most_period.ensures
