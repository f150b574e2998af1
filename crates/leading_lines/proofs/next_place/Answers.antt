-- None stays none; past the last place there is none; due or not.
use native.Mathlib.Omega.{arith}
use borrow.Author.Tests.{lt-ltb, le-ltb, eq-eqb, ne_eqb}
use Rattle.frame_layout.specs.PlaceLaws.{last_small}
use Rattle.leading_lines.specs.LeadingLines.{next_place}
use borrow.Author.Rules.{rules}
use Rattle.leading_lines.proofs.next_place.Goals as goal

pub returns-then-place-eq0 : goal.returns-then-place-eq0
unfolding next_place
returns-then-place-eq0 c = simp (eq-eqb _ _ c.if-place-eq0.true)

pub returns-then-last_place-place : goal.returns-then-last_place-place
unfolding next_place
returns-then-last_place-place c = simp (ne_eqb _ _ c.if-place-eq0.false, ← c.last_place.ensures, lt-ltb _ _ c.if-last_place-place.true)

pub overflow_add-result : goal.overflow_add-result
overflow_add-result c = omega (arith, c.if-last_place-place.false, c.last_place.ensures, last_small c.args.profile)

pub returns-then-due_at : goal.returns-then-due_at
unfolding next_place
returns-then-due_at c = simp (ne_eqb _ _ c.if-place-eq0.false, ← c.last_place.ensures, le-ltb _ _ c.if-last_place-place.false, ← c.due_at.ensures, c.if-due_at.true)

pub returns : goal.returns
unfolding next_place
returns c = simp (ne_eqb _ _ c.if-place-eq0.false, ← c.last_place.ensures, le-ltb _ _ c.if-last_place-place.false, ← c.due_at.ensures, c.if-due_at.false)
