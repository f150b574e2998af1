-- At each turn what is left brings what the whole does, and the line buffer is as lent; a portion that is answered or the last gives the whole, and any
-- other is taken whole, and blocks after it.
use mathlib.Core.Path.{refl, ◌∙◌}
use Prim.Native.Nat.{ℕ, ◌*◌, ◌≤◌, ◌<◌}
use native.Mathlib.Omega.{arith}
use lib.ListN.{length, get_or}
use Rattle.capture_bytes.proofs.Portions.{start, upto_on, still_within, portion_within, next_turn, last_turn, turn_less}
use Rattle.capture_bytes.proofs.run.Goals as goal

pub loop-most-init : goal.loop-most-init
loop-most-init c = (start _ _ _ _ _ c.code_is_byte.ensures, refl, refl, omega arith, omega arith, omega arith)

pub overflow_add-at : goal.overflow_add-at
overflow_add-at c =
    let l = c.loop-most in
    omega (arith, c.well_formed.1.1.0.1, l.invariant.0.forward, l.invariant.4, l.invariant.5, c.ranges.from)

pub overflow_add-at-in-loop-most : goal.overflow_add-at-in-loop-most
overflow_add-at-in-loop-most c =
    let l = c.loop-most in
    let a = c.args in
    let known : (i : ℕ) → get_or a.bytes.now i 0 < 256 = λ i. (c.shared_slice_known-1.given i).fits in
    let end = c.lesser-end.result in
    let within : end ≤ length a.bytes.now = omega (arith, c.lesser-end.ensures) in
    omega (arith, portion_within l.invariant.0 known end within, c.run_portion-t.ensures.count, c.well_formed.1.1.0.1, l.invariant.0.forward, l.invariant.5, c.ranges.from)

pub overflow_sub-result : goal.overflow_sub-result
overflow_sub-result c = let l = c.loop-most in omega (arith, l.invariant.0.forward)

pub loop-most-smaller : goal.loop-most-smaller
loop-most-smaller c =
    let l = c.loop-most in
    let a = c.args in
    let known : (i : ℕ) → get_or a.bytes.now i 0 < 256 = λ i. (c.shared_slice_known-1.given i).fits in
    let end = c.lesser-end.result in
    let within : end ≤ length a.bytes.now = omega (arith, c.lesser-end.ensures) in
    let p = c.run_portion-t in
    let less = turn_less l.invariant.0 known end within p.ensures p.auto.body c.goes_on.ensures c.if-goes_on.true (λ h. omega (arith, h, c.lesser-end.ensures, l.invariant.3)) in
    omega (arith, less, c.skip-s.ensures.from_on)

pub loop-most-preserved : goal.loop-most-preserved
loop-most-preserved c =
    let l = c.loop-most in
    let a = c.args in
    let known : (i : ℕ) → get_or a.bytes.now i 0 < 256 = λ i. (c.shared_slice_known-1.given i).fits in
    let end = c.lesser-end.result in
    let within : end ≤ length a.bytes.now = omega (arith, c.lesser-end.ensures) in
    let p = c.run_portion-t in
    let k = c.skip-s.ensures in
    let size = c.portion_size-most.ensures in
    let u = next_turn l.invariant.0 known end within p.ensures p.auto.body c.goes_on.ensures c.if-goes_on.true in (
      upto_on u k,
      k.same_length ∙ p.auto.body ∙ l.invariant.1,
      p.auto.line ∙ l.invariant.2,
      size.0,
      size.1,
      still_within a.from l.at p.result.taken _ (2 * length a.bytes.now) l.invariant.0.forward l.invariant.5
          (omega (arith, portion_within l.invariant.0 known end within, p.ensures.count)) k.from_on k.within,
    )

pub returns-else-goes_on : goal.returns-else-goes_on
returns-else-goes_on c =
    let l = c.loop-most in
    let a = c.args in
    let known : (i : ℕ) → get_or a.bytes.now i 0 < 256 = λ i. (c.shared_slice_known-1.given i).fits in
    let end = c.lesser-end.result in
    let within : end ≤ length a.bytes.now = omega (arith, c.lesser-end.ensures) in
    let p = c.run_portion-t in
    last_turn l.invariant.0 known end within p.ensures p.auto.body c.goes_on.ensures c.if-goes_on.false
