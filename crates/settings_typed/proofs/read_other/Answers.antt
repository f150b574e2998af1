-- One verb after another is tried, in the order of the definition.
use Rattle.settings_typed.specs.RequestWords.{other_asked}
use Rattle.settings_typed.proofs.read_other.Goals as goal

pub returns-then-is : goal.returns-then-is
unfolding other_asked
returns-then-is c =
    simp (← c.is.ensures, c.if-is.true, c.is_one.ensures, c.short.ensures)

pub returns-then-is-2 : goal.returns-then-is-2
unfolding other_asked
returns-then-is-2 c =
    simp (← c.is.ensures, c.if-is.false, ← c.is-2.ensures, c.if-is-2.true)

pub returns : goal.returns
unfolding other_asked
returns c =
    simp (← c.is.ensures, c.if-is.false, ← c.is-2.ensures, c.if-is-2.false)
