-- By the judge and its borders: up to the settling place while unsettled, past it up to the last place once settled, each range tested by within.
use native.Mathlib.Omega.{arith}
use Rattle.frame_layout.specs.PlaceLaws.{settling_small}
use borrow.Author.Rules.{rules}
use Rattle.frame_judge.proofs.Judge.passes.Goals as goal

pub overflow_add-settling : goal.overflow_add-settling
overflow_add-settling c =
    let args = c.args in
    simp c.settling_place-settling.ensures (omega (arith, settling_small args.profile))

pub returns-in-None : goal.returns-in-None
returns-in-None c = simp (c.in-Due.is, c.in-None.is, ← c.settling_place-settling.ensures, c.within.ensures)

pub returns-in-Some : goal.returns-in-Some
returns-in-Some c = simp (c.in-Due.is, c.in-Some.is, ← c.settling_place-settling.ensures, ← c.last_place-last.ensures, c.within-in-Some.ensures)
