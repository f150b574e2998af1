-- At each turn the bytes that are passed are as the test says; then fewer are left, or the blocks are smaller.
use mathlib.Core.Path.{refl}
use Prim.Native.Nat.{◌+◌, ◌-◌, ◌≤◌}
use native.Mathlib.Omega.{arith}
use Rattle.capture_bytes.proofs.Blocks.{none_begins, begins_on}
use Rattle.capture_bytes.proofs.far_bytes.Goals as goal

pub loop-block-init : goal.loop-block-init
loop-block-init c = (omega arith, omega arith, none_begins c.args.bytes.now c.args.i)

pub overflow_add-n : goal.overflow_add-n
overflow_add-n c =
    let fits : let l = c.loop-block in
    l.block ≤ c.args.most - l.n = ((c.is_far.ensures c.if-is_far.true).0) in
    omega (arith, fits)

pub loop-block-smaller-then-is_far : goal.loop-block-smaller-then-is_far
loop-block-smaller-then-is_far c =
    let fits : let l = c.loop-block in
    l.block ≤ c.args.most - l.n = ((c.is_far.ensures c.if-is_far.true).0) in
    omega (arith, fits)

pub loop-block-preserved-then-is_far : goal.loop-block-preserved-then-is_far
loop-block-preserved-then-is_far c =
    let fits : let l = c.loop-block in
    l.block ≤ c.args.most - l.n = ((c.is_far.ensures c.if-is_far.true).0) in
    let a = c.args in
    let l = c.loop-block in
    (omega (arith, fits), l.invariant.1, begins_on (a.i + l.n) l.invariant.2 (c.is_far.ensures c.if-is_far.true).1 refl)

pub loop-block-preserved : goal.loop-block-preserved
loop-block-preserved c = let l = c.loop-block in (l.invariant.0, omega (arith, l.invariant.1), l.invariant.2)

pub returns : goal.returns
returns c = let l = c.loop-block in (l.invariant.0, l.invariant.2)
