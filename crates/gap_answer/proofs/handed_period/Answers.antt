-- A body is short, so the fixed part of a period is below 65,535, and the sum is taken only where it does not pass that.
use native.Mathlib.Omega.{arith}
use Rattle.profile.specs.LayoutLaws.{body_small}
use borrow.Author.Rules.{rules}
use Rattle.gap_answer.proofs.handed_period.Goals as goal

pub overflow_mul-line : goal.overflow_mul-line
overflow_mul-line c = omega (arith, c.body_length.ensures, body_small c.args.profile)

pub overflow_add-line : goal.overflow_add-line
overflow_add-line c = omega (arith, c.body_length.ensures, body_small c.args.profile)

pub overflow_sub-most : goal.overflow_sub-most
overflow_sub-most c = omega (arith, c.body_length.ensures, body_small c.args.profile)

pub returns-then-most-line : goal.returns-then-most-line
returns-then-most-line c = omega (arith, c.if-most-line.true, c.body_length.ensures, body_small c.args.profile)

pub overflow_add-result : goal.overflow_add-result
overflow_add-result c = omega (arith, c.if-most-line.false, c.body_length.ensures, body_small c.args.profile)

pub overflow_cast-result-2 : goal.overflow_cast-result-2
overflow_cast-result-2 c = omega (arith, c.if-most-line.false, c.body_length.ensures, body_small c.args.profile)

pub returns : goal.returns
returns c = omega (arith, c.if-most-line.false, c.body_length.ensures, body_small c.args.profile)
