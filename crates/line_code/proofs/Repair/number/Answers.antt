-- A repair as a number: one more than the bit, read off the case that it is.
use borrow.Author.Rules.{rules}
use Rattle.line_code.proofs.Repair.number.Goals as goal

pub returns-in-Bit : goal.returns-in-Bit
returns-in-Bit c = simp c.in-Bit.is
