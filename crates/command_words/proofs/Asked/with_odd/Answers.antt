-- By what the program takes.
use Rattle.command_words.specs.Asked.{odd_asked}
use borrow.Author.Rules.{rules}
use Rattle.command_words.proofs.Asked.with_odd.Goals as goal

pub returns-then-usage : goal.returns-then-usage
unfolding odd_asked
returns-then-usage c = simp c.if-usage.true

pub returns : goal.returns
unfolding odd_asked
returns c = simp (c.if-usage.false, c.not_understood.ensures)
