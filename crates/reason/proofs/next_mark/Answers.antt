-- Place after place: no mark begins before the place reached.
use mathlib.Core.Path.{ap, sym, ◌∙◌}
use mathlib.Core.Bool.{Bool, cond}
use Prim.Native.Nat.{suc, ◌+◌}
use native.Mathlib.Omega.{arith}
use lib.ListN.{drop}
use borrow.Author.Rules.{rules}
use Rattle.reason.specs.Explanation.{begins_mark, next_mark}
use Rattle.reason.proofs.Steps.{part_rest, next_step, next_end}
use Rattle.reason.proofs.next_mark.Goals as goal

pub loop-i-init : goal.loop-i-init
loop-i-init c = omega arith

pub returns-then-begins_mark : goal.returns-then-begins_mark
returns-then-begins_mark c =
    let l = c.loop-i in
    let w = c.args.run.now in
    let b = sym (ap begins_mark (part_rest w l.i)) ∙ sym c.begins_mark.ensures.0 ∙ c.if-begins_mark.true in
    let e = next_step w l.i c.loop-i-test.true ∙ ap (λ (x : Bool). cond x 0 (suc (next_mark (drop (l.i + 1) w)))) b in
    (omega (arith, l.invariant, e), search rules)

pub loop-i-preserved : goal.loop-i-preserved
loop-i-preserved c =
    let l = c.loop-i in
    let w = c.args.run.now in
    let b = sym (ap begins_mark (part_rest w l.i)) ∙ sym c.begins_mark.ensures.0 ∙ c.if-begins_mark.false in
    let e = next_step w l.i c.loop-i-test.true ∙ ap (λ (x : Bool). cond x 0 (suc (next_mark (drop (l.i + 1) w)))) b in
    omega (arith, l.invariant, e)

pub returns : goal.returns
returns c =
    let l = c.loop-i in
    (omega (arith, l.invariant, next_end c.args.run.now l.i c.loop-i-test.false), omega arith)
