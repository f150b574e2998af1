-- The tally's answer, and each part by its own rule.
use Rattle.findings.specs.Findings.{take_of}
use borrow.Author.Rules.{rules}
use Rattle.findings.proofs.Findings.take.Goals as goal

pub returns : goal.returns
unfolding take_of
returns c = simp (← c.take-told.ensures, c.take-signal.ensures, c.with-outside.ensures)
