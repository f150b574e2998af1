-- At each turn the run from here on is the run from the start; past the body only a stray nibble is noted, and the places left fall.
use mathlib.Core.Path.{sym, ◌∙◌}
use native.Mathlib.Omega.{arith}
use borrow.Author.Rules.{rules}
use Rattle.run_ahead.proofs.Pairs.{turn, reads, fewer, leads_here, leads_to_end}
use Rattle.run_ahead.proofs.Blocks.{last_small}
use Rattle.run_ahead.proofs.Turns.{passed_pair, passed_blocks, passed_waiting}
use Rattle.run_ahead.proofs.past_body.Goals as goal

pub loop-stray-init : goal.loop-stray-init
loop-stray-init c =
    let a = c.args in
    record {
      leads = λ B. leads_here a.s.now a.h B a.from;
      stands = record { small = search rules; from_on = search rules; up_to = search rules; within = search rules };
      late = search rules;
      waits = omega arith;
    }

pub slide_byte-window-requires : goal.slide_byte-window-requires
slide_byte-window-requires c = reads (turn c.loop-stray.invariant.stands c.is_pair.ensures c.loop-stray-test.true)

pub overflow_add-i : goal.overflow_add-i
overflow_add-i c =
    let t = turn c.loop-stray.invariant.stands c.is_pair.ensures c.loop-stray-test.true in
    omega (arith, (reads t).0)

pub overflow_sub-wait : goal.overflow_sub-wait
overflow_sub-wait c = omega (arith, c.loop-stray.invariant.waits)

pub far_pairs-n-requires : goal.far_pairs-n-requires
far_pairs-n-requires c =
    let f = passed_pair c.loop-stray.invariant (turn c.loop-stray.invariant.stands c.is_pair.ensures c.loop-stray-test.true) c.top_byte.ensures c.slide_byte-window.ensures c.stray_after-stray.ensures c.next_count.ensures c.next_count-count.ensures in
    (f.stands.within, f.stands.up_to)

pub later_count-count-requires : goal.later_count-count-requires
later_count-count-requires c = omega (arith, (c.far_pairs-n.ensures.0 c.if-n-gt0.true).up_to)

pub overflow_mul-i : goal.overflow_mul-i
overflow_mul-i c = omega (arith, (c.far_pairs-n.ensures.0 c.if-n-gt0.true).up_to)

pub overflow_add-i-then-n-gt0 : goal.overflow_add-i-then-n-gt0
overflow_add-i-then-n-gt0 c = omega (arith, (c.far_pairs-n.ensures.0 c.if-n-gt0.true).up_to)

pub overflow_sub-i : goal.overflow_sub-i
overflow_sub-i c = omega (arith, (c.far_pairs-n.ensures.0 c.if-n-gt0.true).behind)

pub window_from-window-requires : goal.window_from-window-requires
window_from-window-requires c =
    let far = c.far_pairs-n.ensures.0 c.if-n-gt0.true in
    (omega (arith, far.up_to, far.behind), last_small far)

pub loop-stray-smaller-then-n-gt0 : goal.loop-stray-smaller-then-n-gt0
loop-stray-smaller-then-n-gt0 c =
    let t = turn c.loop-stray.invariant.stands c.is_pair.ensures c.loop-stray-test.true in
    omega (arith, (c.far_pairs-n.ensures.0 c.if-n-gt0.true).up_to, t.fits)

pub loop-stray-preserved-then-n-gt0 : goal.loop-stray-preserved-then-n-gt0
loop-stray-preserved-then-n-gt0 c =
    let f = passed_pair c.loop-stray.invariant (turn c.loop-stray.invariant.stands c.is_pair.ensures c.loop-stray-test.true) c.top_byte.ensures c.slide_byte-window.ensures c.stray_after-stray.ensures c.next_count.ensures c.next_count-count.ensures in
    let far = c.far_pairs-n.ensures.0 c.if-n-gt0.true in
    passed_waiting (passed_blocks f far c.later_count-count.ensures c.window_from-window.ensures) (omega arith)

pub loop-stray-smaller-else-n-gt0 : goal.loop-stray-smaller-else-n-gt0
loop-stray-smaller-else-n-gt0 c = fewer (turn c.loop-stray.invariant.stands c.is_pair.ensures c.loop-stray-test.true)

pub loop-stray-preserved-else-n-gt0 : goal.loop-stray-preserved-else-n-gt0
loop-stray-preserved-else-n-gt0 c =
    let f = passed_pair c.loop-stray.invariant (turn c.loop-stray.invariant.stands c.is_pair.ensures c.loop-stray-test.true) c.top_byte.ensures c.slide_byte-window.ensures c.stray_after-stray.ensures c.next_count.ensures c.next_count-count.ensures in
    passed_waiting f (omega arith)

pub loop-stray-smaller : goal.loop-stray-smaller
loop-stray-smaller c = fewer (turn c.loop-stray.invariant.stands c.is_pair.ensures c.loop-stray-test.true)

pub loop-stray-preserved : goal.loop-stray-preserved
loop-stray-preserved c =
    let f = passed_pair c.loop-stray.invariant (turn c.loop-stray.invariant.stands c.is_pair.ensures c.loop-stray-test.true) c.top_byte.ensures c.slide_byte-window.ensures c.stray_after-stray.ensures c.next_count.ensures c.next_count-count.ensures in
    passed_waiting f (omega (arith, c.if-wait-eq0.false))

pub returns : goal.returns
returns c = let l = c.loop-stray in λ B. leads_to_end _ _ _ _ _ _ _ (l.invariant.leads B) (sym c.is_pair.ensures ∙ c.loop-stray-test.false)
