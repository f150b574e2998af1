-- By what the program takes, and whether a number stands already.
use borrow.Author.Tests.{eq-eqb, ne_eqb}
use Rattle.command_words.specs.Asked.{mark_asked}
use borrow.Author.Rules.{rules}
use Rattle.command_words.proofs.Asked.with_mark.Goals as goal

pub returns-then-self-eq0 : goal.returns-then-self-eq0
unfolding mark_asked
returns-then-self-eq0 c = simp (c.if-usage.true, eq-eqb _ _ c.if-self-eq0.true)

pub returns-then-usage : goal.returns-then-usage
unfolding mark_asked
returns-then-usage c = simp (c.if-usage.true, ne_eqb _ _ c.if-self-eq0.false, c.not_understood.ensures)

pub returns : goal.returns
unfolding mark_asked
returns c = simp (c.if-usage.false, c.with_name.ensures)
