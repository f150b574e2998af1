-- At each turn the bytes that are passed are as the test says; then fewer are left, or the blocks are smaller.
use mathlib.Core.Path.{refl}
use Prim.Native.Nat.{◌+◌, ◌-◌, ◌≤◌}
use native.Mathlib.Omega.{arith}
use Rattle.capture_bytes.proofs.Blocks.{none_null_yet, nulls_on}
use Rattle.capture_bytes.proofs.null_bytes.Goals as goal

pub loop-block-init : goal.loop-block-init
loop-block-init c = (omega arith, omega arith, none_null_yet c.args.bytes.now c.args.i)

pub overflow_add-n : goal.overflow_add-n
overflow_add-n c =
    let fits : let l = c.loop-block in
    l.block ≤ c.args.most - l.n = ((c.is_null.ensures c.if-is_null.true).0) in
    omega (arith, fits)

pub loop-block-smaller-then-is_null : goal.loop-block-smaller-then-is_null
loop-block-smaller-then-is_null c =
    let fits : let l = c.loop-block in
    l.block ≤ c.args.most - l.n = ((c.is_null.ensures c.if-is_null.true).0) in
    omega (arith, fits)

pub loop-block-preserved-then-is_null : goal.loop-block-preserved-then-is_null
loop-block-preserved-then-is_null c =
    let fits : let l = c.loop-block in
    l.block ≤ c.args.most - l.n = ((c.is_null.ensures c.if-is_null.true).0) in
    let a = c.args in
    let l = c.loop-block in
    (omega (arith, fits), l.invariant.1, nulls_on (a.i + l.n) l.invariant.2 (c.is_null.ensures c.if-is_null.true).1 refl)

pub loop-block-preserved : goal.loop-block-preserved
loop-block-preserved c = let l = c.loop-block in (l.invariant.0, omega (arith, l.invariant.1), l.invariant.2)

pub returns : goal.returns
returns c = let l = c.loop-block in (l.invariant.0, l.invariant.2)
