-- A list is passed by a line where the other's number is not smaller, and it has a line.
use borrow.Author.Tests.{lt-ltb, le-ltb, le-leb, lt-leb}
use Rattle.diff_records.specs.Next.{how_far}
use Rattle.diff_records.proofs.how_far.Goals as goal

pub returns-then-other-own : goal.returns-then-other-own
unfolding how_far
returns-then-other-own c = simp (lt-leb _ _ c.if-other-own.true)

pub returns-then-own-lt-NO_LINE : goal.returns-then-own-lt-NO_LINE
unfolding how_far
returns-then-own-lt-NO_LINE c = simp (le-leb _ _ c.if-other-own.false, lt-ltb _ _ c.if-own-lt-NO_LINE.true)

pub returns : goal.returns
unfolding how_far
returns c = simp (le-leb _ _ c.if-other-own.false, le-ltb _ _ c.if-own-lt-NO_LINE.false)
