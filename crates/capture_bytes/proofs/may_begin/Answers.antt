-- A mark may begin only where both tests hold.
use mathlib.Core.Logic.{inl, inr}
use native.Mathlib.Omega.{arith}
use borrow.Author.Rules.{rules}
use Rattle.capture_bytes.proofs.may_begin.Goals as goal

pub returns-then-third-lt16 : goal.returns-then-third-lt16
returns-then-third-lt16 c = (search rules, λ e. absurd (omega arith))

pub returns-else-third-lt16 : goal.returns-else-third-lt16
returns-else-third-lt16 c = (search rules, λ e. inr (search rules))

pub returns-else-first-eq255 : goal.returns-else-first-eq255
returns-else-first-eq255 c = (search rules, λ e. inl (search rules))
