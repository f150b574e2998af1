-- Unsettled borders stay so before the settling place; from there on a VL settles them on, any other kind off; settled ones stay.
use borrow.Author.Tests.{lt-ltb, le-ltb, eq-eqb, ne_eqb}
use borrow.Author.Rules.{rules}
use Rattle.frame_judge.proofs.settled_by.Goals as goal

pub returns-then-place-settling_place : goal.returns-then-place-settling_place
returns-then-place-settling_place c = simp (c.in-None.is, ← c.settling_place.ensures, lt-ltb _ _ c.if-place-settling_place.true)

pub returns-then-kind-number : goal.returns-then-kind-number
returns-then-kind-number c =
    simp (c.in-None.is, ← c.settling_place.ensures, le-ltb _ _ c.if-place-settling_place.false, ← c.number.ensures, eq-eqb _ _ c.if-kind-number.true)

pub returns-else-kind-number : goal.returns-else-kind-number
returns-else-kind-number c =
    simp (c.in-None.is, ← c.settling_place.ensures, le-ltb _ _ c.if-place-settling_place.false, ← c.number.ensures, ne_eqb _ _ c.if-kind-number.false)

pub returns-in-Some : goal.returns-in-Some
returns-in-Some c = simp c.in-Some.is
