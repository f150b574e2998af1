-- By whether the mark goes on beyond what is looked at, and whether it is good.
use borrow.Author.Tests.{lt-ltb, le-ltb, eq-eqb, ne_eqb}
use Rattle.why_line.specs.ReasonText.{reason_in}
use Rattle.why_line.proofs.reason_in.Goals as goal

pub returns-then-bytes-le-MOST : goal.returns-then-bytes-le-MOST
unfolding reason_in
returns-then-bytes-le-MOST c = simp (le-ltb _ _ c.if-bytes-le-MOST.true) c.reason_of_run.ensures

pub returns-then-mark-eq0 : goal.returns-then-mark-eq0
unfolding reason_in
returns-then-mark-eq0 c = simp (lt-ltb _ _ c.if-bytes-le-MOST.false, eq-eqb _ _ c.if-mark-eq0.true)

pub returns : goal.returns
unfolding reason_in
returns c = simp (lt-ltb _ _ c.if-bytes-le-MOST.false, ne_eqb _ _ c.if-mark-eq0.false) c.reason_of_run-2.ensures
