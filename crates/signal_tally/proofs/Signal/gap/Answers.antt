-- The gap's period joins those seen.
use borrow.Author.Rules.{rules}
use Rattle.signal_tally.proofs.Signal.gap.Goals as goal

pub returns : goal.returns
returns c = simp (c.seen-first.ensures, c.with-spacing.ensures)
