-- One more at the refusal's place.
use borrow.Author.Rules.{rules}
use Rattle.signal_tally.proofs.Signal.refusal.Goals as goal

pub returns : goal.returns
returns c = simp (c.seen-first.ensures, c.with_refusal-refused.ensures)
