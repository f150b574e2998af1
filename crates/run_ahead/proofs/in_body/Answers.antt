-- At each turn the run from here on is the run from the start; the byte that leaves the window goes to its place of the body, and so do a block's bytes;
-- the places left fall.
use mathlib.Core.Path.{◌≡◌, subst}
use mathlib.Core.Logic.{inl}
use Prim.Native.Nat.{ℕ, ◌+◌, ◌-◌, ◌*◌, ◌/◌}
use native.Mathlib.Omega.{arith}
use lib.ListN.{length-set}
use borrow.Author.Rules.{rules}
use Rattle.run_ahead.specs.Ahead.{past_body}
use Rattle.run_ahead.specs.Parts.{Leads, strayed}
use Rattle.run_ahead.proofs.Pairs.{head, turn, reads, fewer, leads_here, here, reaches, ended}
use Rattle.run_ahead.proofs.Blocks.{behind_small, last_small}
use Rattle.run_ahead.proofs.Turns.{at_most, fits_in, part_end, whole_bytes, filled_pair, filled_blocks, filled_waiting}
use Rattle.run_ahead.proofs.in_body.Goals as goal

pub returns-then-h-ge-PAST : goal.returns-then-h-ge-PAST
returns-then-h-ge-PAST c = let a = c.args in here a.s.now a.h _ a.from (search rules) (inl (search rules))

pub loop-b-init : goal.loop-b-init
loop-b-init c =
    let a = c.args in
    record {
      leads = leads_here a.s.now _ _ a.from;
      stands = record { small = search rules; from_on = search rules; up_to = search rules; within = search rules };
      long = search rules;
      placed = record { later = search rules; pairs = omega arith; ends = omega arith; room = omega arith };
      waits = omega arith;
    }

pub bounds-body-j : goal.bounds-body-j
bounds-body-j c =
    let l = c.loop-b in
    let t = turn c.loop-b.invariant.stands c.is_pair.ensures c.loop-b-test.true in
    omega (arith, fits_in l.invariant.placed 1 t.fits, l.invariant.long)

pub slide_byte-window-requires : goal.slide_byte-window-requires
slide_byte-window-requires c = reads (turn c.loop-b.invariant.stands c.is_pair.ensures c.loop-b-test.true)

pub overflow_add-j : goal.overflow_add-j
overflow_add-j c =
    let t = turn c.loop-b.invariant.stands c.is_pair.ensures c.loop-b-test.true in
    omega (arith, fits_in c.loop-b.invariant.placed 1 t.fits)

pub overflow_add-i : goal.overflow_add-i
overflow_add-i c =
    let t = turn c.loop-b.invariant.stands c.is_pair.ensures c.loop-b-test.true in
    omega (arith, (reads t).0)

pub overflow_sub-wait : goal.overflow_sub-wait
overflow_sub-wait c = omega (arith, c.loop-b.invariant.waits)

pub far_pairs-n-requires : goal.far_pairs-n-requires
far_pairs-n-requires c =
    let f = filled_pair c.loop-b.invariant (turn c.loop-b.invariant.stands c.is_pair.ensures c.loop-b-test.true) c.top_byte-b.ensures c.slide_byte-window.ensures c.stray_after-stray.ensures in
    (f.stands.within, f.stands.up_to)

pub overflow_sub-i : goal.overflow_sub-i
overflow_sub-i c = (c.far_pairs-n.ensures.0 c.if-n-gt0.true).behind

pub pack-requires : goal.pack-requires
pack-requires c =
    let f = filled_pair c.loop-b.invariant (turn c.loop-b.invariant.stands c.is_pair.ensures c.loop-b-test.true) c.top_byte-b.ensures c.slide_byte-window.ensures c.stray_after-stray.ensures in
    let far = c.far_pairs-n.ensures.0 c.if-n-gt0.true in
    let room = fits_in f.placed c.far_pairs-n.result far.up_to in
    (omega (arith, far.up_to, far.behind, f.stands.within), simp length-set (omega (arith, room, c.loop-b.invariant.long)), behind_small far, c.far_pairs-n.ensures.1)

pub overflow_add-j-then-n-gt0 : goal.overflow_add-j-then-n-gt0
overflow_add-j-then-n-gt0 c =
    let f = filled_pair c.loop-b.invariant (turn c.loop-b.invariant.stands c.is_pair.ensures c.loop-b-test.true) c.top_byte-b.ensures c.slide_byte-window.ensures c.stray_after-stray.ensures in
    let far = c.far_pairs-n.ensures.0 c.if-n-gt0.true in
    omega (arith, fits_in f.placed c.far_pairs-n.result far.up_to)

pub overflow_mul-i : goal.overflow_mul-i
overflow_mul-i c = omega (arith, (c.far_pairs-n.ensures.0 c.if-n-gt0.true).up_to)

pub overflow_add-i-then-n-gt0 : goal.overflow_add-i-then-n-gt0
overflow_add-i-then-n-gt0 c = omega (arith, (c.far_pairs-n.ensures.0 c.if-n-gt0.true).up_to)

pub overflow_sub-i-then-n-gt0 : goal.overflow_sub-i-then-n-gt0
overflow_sub-i-then-n-gt0 c = omega (arith, (c.far_pairs-n.ensures.0 c.if-n-gt0.true).behind)

pub window_from-window-requires : goal.window_from-window-requires
window_from-window-requires c =
    let f = filled_pair c.loop-b.invariant (turn c.loop-b.invariant.stands c.is_pair.ensures c.loop-b-test.true) c.top_byte-b.ensures c.slide_byte-window.ensures c.stray_after-stray.ensures in
    let far = c.far_pairs-n.ensures.0 c.if-n-gt0.true in
    (omega (arith, far.up_to, far.behind, f.stands.within), last_small far)

pub loop-b-smaller-then-n-gt0 : goal.loop-b-smaller-then-n-gt0
loop-b-smaller-then-n-gt0 c =
    let t = turn c.loop-b.invariant.stands c.is_pair.ensures c.loop-b-test.true in
    omega (arith, (c.far_pairs-n.ensures.0 c.if-n-gt0.true).up_to, t.fits)

pub loop-b-preserved-then-n-gt0 : goal.loop-b-preserved-then-n-gt0
loop-b-preserved-then-n-gt0 c =
    let f = filled_pair c.loop-b.invariant (turn c.loop-b.invariant.stands c.is_pair.ensures c.loop-b-test.true) c.top_byte-b.ensures c.slide_byte-window.ensures c.stray_after-stray.ensures in
    let far = c.far_pairs-n.ensures.0 c.if-n-gt0.true in
    filled_waiting (filled_blocks f far c.pack.ensures c.window_from-window.ensures) (omega arith)

pub loop-b-smaller-else-n-gt0 : goal.loop-b-smaller-else-n-gt0
loop-b-smaller-else-n-gt0 c = fewer (turn c.loop-b.invariant.stands c.is_pair.ensures c.loop-b-test.true)

pub loop-b-preserved-else-n-gt0 : goal.loop-b-preserved-else-n-gt0
loop-b-preserved-else-n-gt0 c =
    let f = filled_pair c.loop-b.invariant (turn c.loop-b.invariant.stands c.is_pair.ensures c.loop-b-test.true) c.top_byte-b.ensures c.slide_byte-window.ensures c.stray_after-stray.ensures in
    filled_waiting f (omega arith)

pub loop-b-smaller : goal.loop-b-smaller
loop-b-smaller c = fewer (turn c.loop-b.invariant.stands c.is_pair.ensures c.loop-b-test.true)

pub loop-b-preserved : goal.loop-b-preserved
loop-b-preserved c =
    let f = filled_pair c.loop-b.invariant (turn c.loop-b.invariant.stands c.is_pair.ensures c.loop-b-test.true) c.top_byte-b.ensures c.slide_byte-window.ensures c.stray_after-stray.ensures in
    filled_waiting f (omega (arith, c.if-wait-eq0.false))

pub overflow_cast-count : goal.overflow_cast-count
overflow_cast-count c = let l = c.loop-b in omega (arith, at_most l.invariant.placed l.invariant.stands.up_to)

pub overflow_mul-count : goal.overflow_mul-count
overflow_mul-count c = let l = c.loop-b in omega (arith, at_most l.invariant.placed l.invariant.stands.up_to)

pub overflow_add-count : goal.overflow_add-count
overflow_add-count c = let l = c.loop-b in omega (arith, at_most l.invariant.placed l.invariant.stands.up_to)

pub shape_of-body : goal.shape_of-body
shape_of-body c = let l = c.loop-b in omega arith

pub returns : goal.returns
returns c =
    let a = c.args in
    let l = c.loop-b in
    let e : 14 + 2 * ((a.h.count - 14) / 2) ≡ a.h.count = omega arith in
    reaches
    (subst (λ (n : ℕ). Leads a.s.now (head a.h.profile a.h.at n a.h.window a.h.kept) a.body.now a.from (head a.h.profile a.h.at (14 + 2 * l.j) l.window (strayed a.h.kept l.stray)) l.body l.i) e l.invariant.leads)
    l.invariant.stands
    (ended past_body (14 + 2 * l.j) l.invariant.stands c.is_pair.ensures c.loop-b-test.false (whole_bytes l.j)
    (part_end l.invariant.placed a.s.now l.invariant.stands.up_to c.sooner-end.ensures.3))
