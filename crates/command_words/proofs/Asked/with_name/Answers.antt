-- The first file, where none stands; else the second.
use borrow.Author.Tests.{eq-eqb, ne_eqb}
use Rattle.command_words.specs.Asked.{name_asked}
use borrow.Author.Rules.{rules}
use Rattle.command_words.proofs.Asked.with_name.Goals as goal

pub returns-then-self-eq0 : goal.returns-then-self-eq0
unfolding name_asked
returns-then-self-eq0 c = simp (eq-eqb _ _ c.if-self-eq0.true)

pub returns : goal.returns
unfolding name_asked
returns c = simp (ne_eqb _ _ c.if-self-eq0.false, c.with_second.ensures)
