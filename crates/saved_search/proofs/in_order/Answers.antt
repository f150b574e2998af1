-- Two places after each other may stand so, or the places are not in order; behind the last two nothing is left to see.
use Rattle.std.proofs.Common.{◌≡◌, ◌+◌, ◌-◌, sym, ◌∙◌, arith}
use Rattle.saved_search.proofs.Looking.{absent, order_step, order_last}
use Rattle.saved_search.proofs.in_order.Goals as goal

pub returns-then-not-may_follow : goal.returns-then-not-may_follow
returns-then-not-may_follow c =
    let k : c.loop-i.i - 1 + 1 ≡ c.loop-i.i = omega arith in
    let step = order_step c.args.places (c.loop-i.i - 1) absent (omega arith) in
    sym (c.loop-i.invariant ∙ step ∙ simp (k, ← c.may_follow.ensures, c.if-not-may_follow.true))

pub loop-i-preserved : goal.loop-i-preserved
loop-i-preserved c =
    let k : c.loop-i.i - 1 + 1 ≡ c.loop-i.i = omega arith in
    let m : c.loop-i.i + 1 - 1 ≡ c.loop-i.i = omega arith in
    let step = order_step c.args.places (c.loop-i.i - 1) absent (omega arith) in
    rw m (c.loop-i.invariant ∙ step ∙ simp (k, ← c.may_follow.ensures, c.if-not-may_follow.false))

pub returns : goal.returns
returns c = sym (c.loop-i.invariant ∙ order_last c.args.places (c.loop-i.i - 1) absent (omega arith))
