-- A place that is there gets one more; any other leaves all as it was.
use borrow.Author.Tests.{lt-ltb, le-ltb}
use Rattle.counts.specs.Counts.{one_more_at}
use Rattle.counts.proofs.add_at.Goals as goal

pub returns-then-i-counts : goal.returns-then-i-counts
unfolding one_more_at
returns-then-i-counts c = simp (lt-ltb _ _ c.if-i-counts.true, c.one_more.ensures)

pub returns-else-i-counts : goal.returns-else-i-counts
unfolding one_more_at
returns-else-i-counts c = simp (le-ltb _ _ c.if-i-counts.false)
