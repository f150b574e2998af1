-- The judge is fresh, as its own function promises, and every count is 0.
use borrow.Author.Rules.{rules}
use Rattle.frame_tally.proofs.Tally.new.Goals as goal

pub returns : goal.returns
returns c = simp c.new-judge.ensures
