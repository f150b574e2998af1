-- 32 where the number is no technician's, then 34 where the place is not theirs.
use borrow.Author.Tests.{eq-eqb, ne_eqb}
use Rattle.technician.specs.Technician.{denial_by}
use borrow.Author.Rules.{rules}
use Rattle.technician.proofs.denial.Goals as goal

pub returns-then-owner-technician : goal.returns-then-owner-technician
unfolding denial_by
returns-then-owner-technician c = simp (← c.is_technician.ensures, c.if-is_technician.true, eq-eqb _ _ c.if-owner-technician.true)

pub returns-then-is_technician : goal.returns-then-is_technician
unfolding denial_by
returns-then-is_technician c = simp (← c.is_technician.ensures, c.if-is_technician.true, ne_eqb _ _ c.if-owner-technician.false)

pub returns : goal.returns
unfolding denial_by
returns c = simp (← c.is_technician.ensures, c.if-is_technician.false)
