-- Two digits a turn: what is still to be stored of the line's bytes, stored after those that are, gives them all.
use mathlib.Core.Path.{◌≡◌, refl, sym, ap, ◌∙◌}
use mathlib.Core.List.{List}
use Prim.Native.Nat.{ℕ, ◌+◌, ◌*◌, ◌≤◌, ◌<◌, ◌/◌}
use native.Mathlib.Omega.{arith}
use native.Mathlib.Numerals.{add-one}
use lib.ListN.{length}
use lib.Seq.{sets}
use Rattle.two_wire_text.specs.HexLaws.{bytes_step, bytes_end}
use Rattle.two_wire_text.proofs.decode.Goals as goal

pub loop-i-init : goal.loop-i-init
loop-i-init c = (omega arith, refl)

pub loop-i-preserved : goal.loop-i-preserved
loop-i-preserved c = let l = c.loop-i in
    let t : l.i < (length c.args.line.now + 1) / 3 = c.loop-i-test.true in
    let e : 3 * (l.i + 1) ≡ 3 * l.i + 3 = omega arith in
    let b = bytes_step c.args.line.now (3 * l.i) (omega arith) in
    rw e (omega (arith, ap length b, l.invariant.0), simp c.byte_of.ensures (rw (add-one l.i) (sym (ap (λ (t : List ℕ). sets l.bytes l.i t) b) ∙ l.invariant.1)))

pub returns : goal.returns
returns c = let l = c.loop-i in
    let t : (length c.args.line.now + 1) / 3 ≤ l.i = c.loop-i-test.false in
    let e = bytes_end c.args.line.now (3 * l.i) (omega arith) in
    (omega (arith, rw e at l.invariant.0), rw e at l.invariant.1)
