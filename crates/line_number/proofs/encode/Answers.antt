-- Up to 4095 both halves are below 64, so each has a number byte; above that the first test refuses.
use borrow.Author.Tests.{le-leb, lt-leb}
use borrow.Author.Rules.{rules}
use Rattle.line_number.proofs.encode.Goals as goal

pub returns-then-number-gt-GREATEST : goal.returns-then-number-gt-GREATEST
returns-then-number-gt-GREATEST c = simp (lt-leb _ _ c.if-number-gt-GREATEST.true)

pub returns : goal.returns
returns c = simp (le-leb _ _ c.if-number-gt-GREATEST.false, c.number_byte-low.ensures, c.number_byte-high.ensures)
