-- A number that is not 0 is a mark's.
use borrow.Author.Tests.{eq-eqb, ne_eqb}
use Rattle.command_word.specs.Word.{name_word}
use Rattle.command_word.proofs.mark_or_name.Goals as goal

pub returns-then-mark-eq0 : goal.returns-then-mark-eq0
unfolding name_word
returns-then-mark-eq0 c = simp (← c.mark_in-mark.ensures, eq-eqb _ _ c.if-mark-eq0.true)

pub returns : goal.returns
unfolding name_word
returns c = simp (← c.mark_in-mark.ensures, ne_eqb _ _ c.if-mark-eq0.false)
