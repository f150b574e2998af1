-- Two tests of the place tell before the range, within it and past it apart; only within it the rule is the one given.
use borrow.Author.Tests.{lt-ltb, le-ltb}
use Rattle.line_layout.specs.Places.{rule_within}
use Rattle.line_layout.proofs.within.Goals as goal

pub returns-then-place-from : goal.returns-then-place-from
unfolding rule_within
returns-then-place-from c = simp (lt-ltb _ _ c.if-place-from.true)

pub returns-then-place-to : goal.returns-then-place-to
unfolding rule_within
returns-then-place-to c = simp (le-ltb _ _ c.if-place-from.false, lt-ltb _ _ c.if-place-to.true)

pub returns : goal.returns
unfolding rule_within
returns c = simp (le-ltb _ _ c.if-place-from.false, le-ltb _ _ c.if-place-to.false)
