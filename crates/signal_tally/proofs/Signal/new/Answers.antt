-- All counts are 0.
use borrow.Author.Rules.{rules}
use Rattle.signal_tally.proofs.Signal.new.Goals as goal

pub returns : goal.returns
returns c = simp c.new-spacing.ensures
