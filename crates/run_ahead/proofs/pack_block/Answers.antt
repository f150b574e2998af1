-- The bytes first into the array, then from there into the body.
use mathlib.Core.Path.{refl, sym, ◌∙◌}
use Prim.Native.Nat.{◌+◌, ◌*◌}
use native.Mathlib.Omega.{arith}
use lib.ListN.{length-set}
use Rattle.std.proofs.lemmas.Slice.{put_mid-paste}
use Rattle.run_ahead.proofs.Blocks.{packed_paste, filled_more}
use Rattle.run_ahead.proofs.pack_block.Goals as goal

pub loop-k-init : goal.loop-k-init
loop-k-init c = (refl, λ x l. absurd (omega arith))

pub overflow_mul-to-in-loop-k : goal.overflow_mul-to-in-loop-k
overflow_mul-to-in-loop-k c =
    let a = c.args in
    let k = c.loop-k.k in
    omega (arith, c.requires.2 (a.i + 2 * k) (omega arith) (omega arith))

pub overflow_add-to-in-loop-k-3 : goal.overflow_add-to-in-loop-k-3
overflow_add-to-in-loop-k-3 c =
    let a = c.args in
    let k = c.loop-k.k in
    let h = c.requires.2 in
    omega (arith, h (a.i + 2 * k) (omega arith) (omega arith), h (a.i + 2 * k + 1) (omega arith) (omega arith))

pub bounds-to-k : goal.bounds-to-k
bounds-to-k c = omega (arith, c.loop-k.invariant.0)

pub loop-k-preserved : goal.loop-k-preserved
loop-k-preserved c =
    let l = c.loop-k in
    let a = c.args in
    (length-set l.to _ _ ∙ l.invariant.0, filled_more l.to a.s.now a.i l.k _ (omega (arith, l.invariant.0)) refl l.invariant.1)

pub returns : goal.returns
returns c =
    let to = c.loop-k in
    let a = c.args in
    put_mid-paste a.j _ a.body.now _ to.to 16 c.copy_from_slice.ensures.after (omega arith) (sym to.invariant.0)
    ∙ sym (packed_paste a.body.now a.j a.s.now a.i to.to 16 (omega arith) (omega (arith, to.invariant.0)) (λ x u. to.invariant.1 x (omega arith)))
