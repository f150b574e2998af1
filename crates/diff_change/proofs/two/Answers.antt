-- The high byte, then the low.
use native.Mathlib.Omega.{arith}
use borrow.Author.Rules.{rules}
use Rattle.diff_change.proofs.two.Goals as goal

pub returns : goal.returns
returns c = (omega (arith, c.byte.ensures, c.wide.ensures.0, c.byte-2.ensures, c.wide-2.ensures.0), omega (arith, c.wide.ensures.1, c.wide-2.ensures.1))
