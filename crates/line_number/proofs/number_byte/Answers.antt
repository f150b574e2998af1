-- A value below 64, doubled and with one bit more, is a byte; it has at most 8 ones, so the count and one more cannot overflow.
use native.Mathlib.Omega.{arith}
use borrow.Author.Rules.{rules}
use lib.Count.{ones-le}
use Rattle.line_number.specs.LineNumber.{number_byte}
use Rattle.line_number.proofs.number_byte.Goals as goal

pub overflow_add-result : goal.overflow_add-result
overflow_add-result c = omega (arith, ones-le 8 c.args.v (search rules))

pub returns : goal.returns
unfolding number_byte
returns c = omega arith
