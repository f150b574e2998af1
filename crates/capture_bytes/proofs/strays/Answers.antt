-- Each byte adds at most one; where none added any, all are FF.
use mathlib.Core.Path.{◌≡◌, subst, sym, ◌∙◌}
use lib.ListN.{drop}
use Rattle.std.proofs.lemmas.List.{get_or-take, get_or-drop}
use Prim.Native.Nat.{◌+◌, ◌-◌, ◌<◌}
use native.Mathlib.Omega.{arith}
use Rattle.capture_bytes.specs.Packed.{AllNull}
use Rattle.capture_bytes.proofs.Blocks.{none_null_yet, nulls_more}
use Rattle.capture_bytes.proofs.strays.Goals as goal

pub loop-byte-init : goal.loop-byte-init
loop-byte-init c = (omega arith, λ e. none_null_yet c.args.bytes.now c.args.i)

pub overflow_add-count : goal.overflow_add-count
overflow_add-count c = omega (arith, c.stray-count.ensures.0, c.loop-byte.invariant.0)

pub loop-byte-preserved : goal.loop-byte-preserved
loop-byte-preserved c =
    let l = c.loop-byte in
    let a = c.args in
    let e = c.stray-count.ensures in
    let within : l.byte-index < a.i + a.n - a.i = omega arith in
    let here = get_or-take (a.i + a.n - a.i) (drop a.i a.bytes.now) l.byte-index 0 within ∙ get_or-drop a.i a.bytes.now l.byte-index 0 in (
      omega (arith, e.0, l.invariant.0),
      λ z. nulls_more a.bytes.now a.i l.byte-index (l.invariant.1 (omega arith)) (sym here ∙ e.1 (omega arith)),
    )

pub returns : goal.returns
returns c =
    let l = c.loop-byte in
    let a = c.args in
    λ e. subst (AllNull a.bytes.now a.i) (let z : l.byte-index ≡ a.n = omega arith in z) (l.invariant.1 e)
