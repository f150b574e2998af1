-- By what is left from the place on: nothing, one character, or more.
use mathlib.Core.Path.{sym, ◌∙◌}
use borrow.Author.Tests.{ne_eqb, le-leb}
use native.Mathlib.Omega.{arith}
use Rattle.saved_text.specs.SettingsTextLaws.{none_left, one_left, more_left}
use Rattle.saved_text.proofs.at_most_newline.Goals as goal

pub returns-then-whole-at : goal.returns-then-whole-at
returns-then-whole-at c = le-leb _ _ c.if-whole-at.true ∙ sym (none_left _ _ c.if-whole-at.true)

pub returns-then-whole-at-2 : goal.returns-then-whole-at-2
returns-then-whole-at-2 c = sym (one_left _ _ c.if-whole-at-2.true)

pub returns-else-whole-at-2 : goal.returns-else-whole-at-2
returns-else-whole-at-2 c =
    let a = c.args in
    ne_eqb _ _ c.if-whole-at-2.false ∙ sym (more_left a.whole.now a.at (omega (arith, c.if-whole-at.false, c.if-whole-at-2.false)))
