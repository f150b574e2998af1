-- A name that is still awaited is missing.
use Rattle.command_words.specs.Asked.{end_asked}
use borrow.Author.Rules.{rules}
use Rattle.command_words.proofs.Asked.end.Goals as goal

pub returns-then-self : goal.returns-then-self
unfolding end_asked
returns-then-self c = simp (c.if-self.true, c.not_understood.ensures)

pub returns : goal.returns
unfolding end_asked
returns c = simp c.if-self.false
