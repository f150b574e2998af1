-- By the repair.
use borrow.Author.Rules.{rules}
use Rattle.signal_tally.proofs.with_repair.Goals as goal

pub returns-in-Bit : goal.returns-in-Bit
returns-in-Bit c = simp (c.in-Bit.is, c.with_bit.ensures)
