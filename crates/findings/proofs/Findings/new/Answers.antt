-- All of its parts are fresh.
use borrow.Author.Rules.{rules}
use Rattle.findings.proofs.Findings.new.Goals as goal

pub returns : goal.returns
returns c = simp (c.new-tally.ensures, c.new-signal.ensures)
