-- By what the program takes, and whether a second file stands already.
use borrow.Author.Tests.{eq-eqb, ne_eqb}
use Rattle.command_words.specs.Asked.{second_asked}
use borrow.Author.Rules.{rules}
use Rattle.command_words.proofs.Asked.with_second.Goals as goal

pub returns-then-self-eq0 : goal.returns-then-self-eq0
unfolding second_asked
returns-then-self-eq0 c = simp (c.if-usage.true, eq-eqb _ _ c.if-self-eq0.true)

pub returns-then-usage : goal.returns-then-usage
unfolding second_asked
returns-then-usage c = simp (c.if-usage.true, ne_eqb _ _ c.if-self-eq0.false, c.not_understood.ensures)

pub returns : goal.returns
unfolding second_asked
returns c = simp (c.if-usage.false, c.not_understood-2.ensures)
