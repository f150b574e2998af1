-- At each turn one block more is at its place.
use mathlib.Core.Path.{◌≡◌, refl, ap, ◌∙◌}
use mathlib.Core.List.{List}
use Prim.Native.Nat.{ℕ, ◌+◌, ◌*◌}
use native.Mathlib.Omega.{arith}
use lib.ListN.{length}
use Rattle.run_ahead.specs.Blocks.{packed_into}
use Rattle.run_ahead.proofs.Blocks.{packed_on, packed_length}
use Rattle.run_ahead.proofs.pack.Goals as goal

pub loop-block-init : goal.loop-block-init
loop-block-init c = (refl, refl)

pub pack_block-requires : goal.pack_block-requires
pack_block-requires c =
    let l = c.loop-block in (
      omega (arith, c.requires.0),
      omega (arith, c.requires.1, l.invariant.1),
      λ x u v. c.requires.2 x (omega (arith, u)) (omega (arith, v)),
    )

pub loop-block-preserved : goal.loop-block-preserved
loop-block-preserved c =
    let a = c.args in
    let l = c.loop-block in
    let e = c.pack_block.ensures in
    let s = a.s.now in
    let k = 16 * l.block in (
      e ∙ ap (λ (b : List ℕ). packed_into b (a.j + k) s (a.i + 2 * k) 16) l.invariant.0 ∙ packed_on a.body.now a.j s a.i k 16
          ∙ ap (packed_into a.body.now a.j s a.i) (let z : k + 16 ≡ 16 * (l.block + 1) = omega arith in z),
      ap length e ∙ packed_length l.body (a.j + k) s (a.i + 2 * k) 16 ∙ l.invariant.1,
    )

pub returns : goal.returns
returns c =
    let l = c.loop-block in
    let a = c.args in
    l.invariant.0 ∙ ap (packed_into a.body.now a.j a.s.now a.i) (let z : 16 * l.block ≡ a.n = omega arith in z)
