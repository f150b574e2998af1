-- At each turn no nibble that is passed is farther from F than the number.
use Prim.Native.Nat.{◌+◌, ◌-◌, ◌<◌}
use native.Mathlib.Omega.{arith}
use Rattle.std.proofs.lemmas.List.Edits.{length-between}
use Rattle.run_ahead.proofs.Blocks.{in_part}
use Rattle.run_ahead.proofs.most_off.Goals as goal

pub returns : goal.returns
returns c = λ x u v.
    let a = c.args in
    let passed : x - a.i < c.loop-x.x-index = omega (arith, c.loop-x-test.false, length-between a.s.now a.i (a.i + 32) (omega (arith, c.requires))) in
    omega (arith, c.loop-x.invariant (x - a.i) passed, in_part a.s.now a.i 32 x u v)
