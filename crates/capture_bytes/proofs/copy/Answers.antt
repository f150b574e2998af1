-- At each turn one byte more is at its place.
use mathlib.Core.Path.{◌≡◌, refl, ap, ◌∙◌}
use Prim.Native.Nat.{◌+◌, ◌*◌}
use native.Mathlib.Omega.{arith}
use lib.ListN.{length-set}
use Rattle.stream.specs.Written.{nibbles}
use Rattle.capture_bytes.specs.Packed.{packed_into}
use Rattle.capture_bytes.proofs.Blocks.{packed_more}
use Rattle.capture_bytes.proofs.copy.Goals as goal

pub loop-k-init : goal.loop-k-init
loop-k-init c = (refl, refl)

pub bounds-body-j : goal.bounds-body-j
bounds-body-j c = omega (arith, c.loop-k.invariant.1)

pub loop-k-preserved : goal.loop-k-preserved
loop-k-preserved c =
    let l = c.loop-k in
    let a = c.args in (
      packed_more a.body.now a.j (nibbles a.bytes.now) a.i a.odd l.k _ l.invariant.0 c.byte_from.ensures,
      length-set l.body _ _ ∙ l.invariant.1,
    )

pub returns : goal.returns
returns c =
    let l = c.loop-k in
    let a = c.args in
    l.invariant.0 ∙ ap (packed_into a.body.now a.j (nibbles a.bytes.now) (2 * a.i + a.odd)) (let z : l.k ≡ a.n = omega arith in z)
