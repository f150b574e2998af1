-- At each turn the nibbles of the bytes so far stand at the front, and the rest is as it was.
use mathlib.Core.Path.{refl, ap, ◌∙◌}
use Prim.Native.Nat.{◌*◌}
use native.Mathlib.Omega.{arith}
use native.Mathlib.Nat.{le_antisymm}
use lib.ListN.{length-set}
use lib.Seq.{lt-length-set}
use Rattle.capture_bytes.specs.Unpacked.{unpacked}
use Rattle.capture_bytes.specs.UnpackedLaws.{unpack_next}
use Rattle.capture_bytes.proofs.unpack.Goals as goal

pub loop-i-init : goal.loop-i-init
loop-i-init c = let e = c.lesser-n.ensures in (omega (arith, e), omega (arith, e), refl, refl)

pub bounds-to-i-in-loop-i : goal.bounds-to-i-in-loop-i
bounds-to-i-in-loop-i c = let l = c.loop-i in lt-length-set l.to (2 * l.i) _ (omega arith)

pub loop-i-preserved : goal.loop-i-preserved
loop-i-preserved c =
    let a = c.args in
    let l = c.loop-i in
    let t = c.loop-i-test.true in (
      l.invariant.0,
      simp length-set l.invariant.1,
      simp l.invariant.2 (unpack_next a.bytes.now a.to.now l.i (omega arith) (omega (arith, l.invariant.1, l.invariant.3, t))),
      simp length-set l.invariant.3,
    )

pub shape_of-to : goal.shape_of-to
shape_of-to c = c.loop-i.invariant.3

pub returns : goal.returns
returns c =
    let a = c.args in
    let l = c.loop-i in
    let n = c.lesser-n.ensures in (
      n,
      l.invariant.2 ∙ ap (unpacked a.bytes.now a.to.now) (le_antisymm (omega arith) c.loop-i-test.false),
    )
