-- The byte that leaves at count 10 is the first after the code, at 12 the second; before that it is the code's own.
use borrow.Author.Tests.{lt-ltb, le-ltb, eq-eqb, ne_eqb}
use Rattle.run_ahead.specs.Parts.{byte_kept}
use Rattle.run_ahead.proofs.keep_byte.Goals as goal

pub returns-then-count-lt10 : goal.returns-then-count-lt10
unfolding byte_kept
returns-then-count-lt10 c = simp (lt-ltb _ _ c.if-count-lt10.true)

pub returns-then-count-eq10 : goal.returns-then-count-eq10
unfolding byte_kept
returns-then-count-eq10 c = simp (le-ltb _ _ c.if-count-lt10.false, eq-eqb _ _ c.if-count-eq10.true, c.stray_kept-stray.ensures)

pub returns : goal.returns
unfolding byte_kept
returns c = simp (le-ltb _ _ c.if-count-lt10.false, ne_eqb _ _ c.if-count-eq10.false, c.stray_kept-stray.ensures)
