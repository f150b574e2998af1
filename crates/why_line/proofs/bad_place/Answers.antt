-- Each reason has its place; those with a number of their own are held at what is looked at.
use native.Mathlib.Omega.{arith}
use Rattle.profile.specs.LayoutLaws.{body_small}
use Rattle.why_line.proofs.bad_place.Goals as goal

pub overflow_mul-result-in-NoEndOfLine : goal.overflow_mul-result-in-NoEndOfLine
overflow_mul-result-in-NoEndOfLine c = omega (arith, c.body_length.ensures, body_small c.args.profile)

pub overflow_add-result-in-NoEndOfLine : goal.overflow_add-result-in-NoEndOfLine
overflow_add-result-in-NoEndOfLine c = omega (arith, c.body_length.ensures, body_small c.args.profile)

pub overflow_add-result-in-NoEndOfLine-2 : goal.overflow_add-result-in-NoEndOfLine-2
overflow_add-result-in-NoEndOfLine-2 c = omega (arith, c.body_length.ensures, body_small c.args.profile)

pub returns-in-WrongLength : goal.returns-in-WrongLength
returns-in-WrongLength c =
    (simp (c.in-WrongLength.is, c.lesser.ensures), omega (arith, c.lesser.ensures))

pub returns-in-BadNumber : goal.returns-in-BadNumber
returns-in-BadNumber c =
    (simp (c.in-BadNumber.is, c.lesser-in-BadNumber.ensures), omega (arith, c.lesser-in-BadNumber.ensures))

pub returns-in-BadBody : goal.returns-in-BadBody
returns-in-BadBody c =
    (simp (c.in-BadBody.is, c.lesser-in-BadBody.ensures), omega (arith, c.lesser-in-BadBody.ensures))

pub returns-in-NoEndOfLine : goal.returns-in-NoEndOfLine
returns-in-NoEndOfLine c =
    let length = c.body_length.ensures in
    (simp c.in-NoEndOfLine.is (omega (arith, length)), omega (arith, length, body_small c.args.profile))

pub returns-in-BadGap : goal.returns-in-BadGap
returns-in-BadGap c =
    (simp (c.in-BadGap.is, c.lesser-in-BadGap.ensures), omega (arith, c.lesser-in-BadGap.ensures))

pub returns-in-ShortGap : goal.returns-in-ShortGap
returns-in-ShortGap c =
    (simp (c.in-ShortGap.is, c.lesser-in-ShortGap.ensures), omega (arith, c.lesser-in-ShortGap.ensures))
