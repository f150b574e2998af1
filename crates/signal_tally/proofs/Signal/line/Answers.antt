-- One line more, and the repair of either code.
use borrow.Author.Rules.{rules}
use Rattle.signal_tally.proofs.Signal.line.Goals as goal

pub returns : goal.returns
returns c = simp (c.seen-first.ensures, c.one_more-lines.ensures, c.with_repair-repaired.ensures, c.with_repair-repaired-2.ensures)
