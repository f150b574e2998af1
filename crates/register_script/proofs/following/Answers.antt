-- One more, where the greatest number is not reached.
use borrow.Author.Tests.{lt-ltb, le-ltb}
use borrow.Author.Rules.{rules}
use Rattle.register_script.specs.Script.{line_after}
use Rattle.register_script.proofs.following.Goals as goal

pub returns-then-number-lt18446744073709551615 : goal.returns-then-number-lt18446744073709551615
unfolding line_after
returns-then-number-lt18446744073709551615 c = simp (lt-ltb _ _ c.if-number-lt18446744073709551615.true)

pub returns : goal.returns
unfolding line_after
returns c = simp (le-ltb _ _ c.if-number-lt18446744073709551615.false)
