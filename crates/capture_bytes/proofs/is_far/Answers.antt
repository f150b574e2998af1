-- So many are left, and none was counted.
use native.Mathlib.Omega.{arith}
use borrow.Author.Tests.{eqb-true, leb-true}
use Rattle.capture_bytes.proofs.is_far.Goals as goal

pub returns-then-n-most : goal.returns-then-n-most
returns-then-n-most c = λ e. (c.if-n-most.true, c.beginnings.ensures (eqb-true _ _ e))

pub returns-else-n-most : goal.returns-else-n-most
returns-else-n-most c = λ e. absurd (omega (arith, leb-true _ _ e, c.if-n-most.false))
