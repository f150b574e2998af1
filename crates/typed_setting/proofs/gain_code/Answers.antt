-- The one test of the definition; a gain code is a byte.
use mathlib.Core.Path.{sym, ◌∙◌}
use native.Mathlib.Omega.{arith}
use borrow.Author.Rules.{rules}
use Rattle.exposure.specs.ExposureLaws.{gain_small}
use Rattle.typed_setting.specs.Setting.{gain_code}
use Rattle.typed_setting.proofs.gain_code.Goals as goal

pub overflow_cast-result : goal.overflow_cast-result
overflow_cast-result c = omega (arith, gain_small _ (sym c.is_gain.ensures ∙ c.if-is_gain.true))

pub returns-then-is_gain : goal.returns-then-is_gain
unfolding gain_code
returns-then-is_gain c = simp (← c.is_gain.ensures, c.if-is_gain.true)

pub returns : goal.returns
unfolding gain_code
returns c = simp (← c.is_gain.ensures, c.if-is_gain.false)
