-- The tally's answer, and each part by its own rule.
use Rattle.findings.specs.Findings.{close_of}
use borrow.Author.Rules.{rules}
use Rattle.findings.proofs.Findings.close.Goals as goal

pub returns : goal.returns
unfolding close_of
returns c = simp (← c.close-told.ensures, c.close-signal.ensures, c.with_cut-cut.ensures)
