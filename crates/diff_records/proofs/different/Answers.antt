-- The count so far, and the places from one on, are all the places.
use mathlib.Core.Path.{ap}
use mathlib.Core.List.{List}
use Prim.Native.Nat.{ℕ}
use native.Mathlib.Omega.{arith}
use borrow.Author.Rules.{rules}
use lib.ListN.{drop, drop_of_length-le}
use Rattle.diff_records.specs.Next.{different}
use Rattle.diff_records.proofs.DifferenceLaws.{different_step}
use Rattle.diff_records.proofs.different.Goals as goal

pub loop-p-init : goal.loop-p-init
loop-p-init c = (search rules, omega arith)

pub loop-p-preserved : goal.loop-p-preserved
loop-p-preserved c =
    let a = c.args in
    let l = c.loop-p in
    (omega arith, omega (arith, different_step a.a.now a.b.now l.p c.loop-p-test.true (omega arith)))

pub returns : goal.returns
returns c =
    let a = c.args in
    let p = c.loop-p.p in
    (omega (arith, ap (λ (l : List ℕ). different l (drop p a.b.now)) (drop_of_length-le a.a.now {i = p} (omega arith))), omega arith)
