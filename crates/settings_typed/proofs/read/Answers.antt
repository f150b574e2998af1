-- One verb after another is tried, in the order of the definition.
use Rattle.settings_typed.specs.RequestWords.{asked_in}
use Rattle.settings_typed.proofs.read.Goals as goal

pub returns-then-is : goal.returns-then-is
unfolding asked_in
returns-then-is c =
    simp (← c.is.ensures, c.if-is.true, c.are_five.ensures, c.wanted.ensures)

pub returns-then-is-2 : goal.returns-then-is-2
unfolding asked_in
returns-then-is-2 c =
    simp (← c.is.ensures, c.if-is.false, ← c.is-2.ensures, c.if-is-2.true, c.is_one.ensures, c.short.ensures)

pub returns-then-is-3 : goal.returns-then-is-3
unfolding asked_in
returns-then-is-3 c =
    simp (← c.is.ensures, c.if-is.false, ← c.is-2.ensures, c.if-is-2.false, ← c.is-3.ensures, c.if-is-3.true, c.is_one-then-is-3.ensures, c.short-then-is-3.ensures)

pub returns : goal.returns
unfolding asked_in
returns c =
    simp (← c.is.ensures, c.if-is.false, ← c.is-2.ensures, c.if-is-2.false, ← c.is-3.ensures, c.if-is-3.false, c.read_other.ensures)
