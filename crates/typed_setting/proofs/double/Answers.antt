-- Up to the limit the value is two bytes, by division and remainder; above it, or where it is no number, the limit is told.
use borrow.Author.Tests.{lt-ltb, le-ltb}
use borrow.Author.Rules.{rules}
use Rattle.typed_setting.specs.Setting.{double}
use Rattle.typed_setting.proofs.double.Goals as goal

pub returns-then-limit-value : goal.returns-then-limit-value
unfolding double
returns-then-limit-value c = simp (← c.value-value.ensures, lt-ltb _ _ c.if-limit-value.true)

pub returns : goal.returns
unfolding double
returns c = simp (← c.value-value.ensures, le-ltb _ _ c.if-limit-value.false)
