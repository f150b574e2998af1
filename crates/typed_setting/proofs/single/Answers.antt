-- Up to the limit the value is one byte; above it, or where it is no number, the limit is told.
use borrow.Author.Tests.{lt-ltb, le-ltb}
use borrow.Author.Rules.{rules}
use Rattle.typed_setting.specs.Setting.{single}
use Rattle.typed_setting.proofs.single.Goals as goal

pub returns-then-limit-value : goal.returns-then-limit-value
unfolding single
returns-then-limit-value c = simp (← c.value-value.ensures, lt-ltb _ _ c.if-limit-value.true)

pub returns : goal.returns
unfolding single
returns c = simp (← c.value-value.ensures, le-ltb _ _ c.if-limit-value.false)
