-- The tests in order.
use borrow.Author.Tests.{eq-eqb, ne_eqb}
use Rattle.verdict.specs.Verdict.{by_frames}
use borrow.Author.Rules.{rules}
use Rattle.verdict.proofs.by_frames.Goals as goal

pub returns-then-tally-eq0 : goal.returns-then-tally-eq0
unfolding by_frames
returns-then-tally-eq0 c = simp (eq-eqb _ _ c.if-tally-eq0.true)

pub returns-then-in_order : goal.returns-then-in_order
unfolding by_frames
returns-then-in_order c = simp (ne_eqb _ _ c.if-tally-eq0.false, ← c.in_order.ensures, c.if-in_order.true)

pub returns : goal.returns
unfolding by_frames
returns c = simp (ne_eqb _ _ c.if-tally-eq0.false, ← c.in_order.ensures, c.if-in_order.false)
