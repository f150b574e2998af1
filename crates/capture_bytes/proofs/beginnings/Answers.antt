-- Each byte adds at most one; where none added any, no mark begins.
use mathlib.Core.Path.{◌≡◌, subst}
use native.Mathlib.Omega.{arith}
use Rattle.capture_bytes.specs.Packed.{NoneBegins}
use Rattle.capture_bytes.proofs.Blocks.{none_begins, begins_more}
use Rattle.capture_bytes.proofs.beginnings.Goals as goal

pub loop-k-init : goal.loop-k-init
loop-k-init c = (omega arith, λ e. none_begins c.args.bytes.now c.args.i)

pub overflow_add-count : goal.overflow_add-count
overflow_add-count c = omega (arith, c.may_begin-count.ensures.0, c.loop-k.invariant.0)

pub loop-k-preserved : goal.loop-k-preserved
loop-k-preserved c =
    let l = c.loop-k in
    let a = c.args in
    let e = c.may_begin-count.ensures in (
      omega (arith, e.0, l.invariant.0),
      λ z. begins_more a.bytes.now a.i l.k (l.invariant.1 (omega arith)) (e.1 (omega arith)),
    )

pub returns : goal.returns
returns c =
    let l = c.loop-k in
    let a = c.args in
    λ e. subst (NoneBegins a.bytes.now a.i) (let z : l.k ≡ a.n = omega arith in z) (l.invariant.1 e)
