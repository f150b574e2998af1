-- Below 128 the top bit is 0, and the count of ones decides; from 128 on the byte is no number byte.
use borrow.Author.Tests.{lt-ltb, le-ltb}
use Rattle.line_number.specs.LineNumber.{number_good}
use Rattle.line_number.proofs.is_good.Goals as goal

pub returns-then-byte-lt128 : goal.returns-then-byte-lt128
unfolding number_good
returns-then-byte-lt128 c = simp (lt-ltb _ _ c.if-byte-lt128.true)

pub returns : goal.returns
unfolding number_good
returns c = simp (le-ltb _ _ c.if-byte-lt128.false)
