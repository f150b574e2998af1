-- At each turn what is left brings what the whole does; a run takes some nibbles, until something is said, or none is left.
use mathlib.Core.Path.{◌≡◌, refl, sym, ◌∙◌}
use Prim.Native.Nat.{◌-◌, ◌*◌}
use native.Mathlib.Omega.{arith}
use lib.ListN.{length}
use borrow.Author.Rules.{rules}
use Rattle.profile.specs.Profile.{longest}
use Rattle.reader_laws.proofs.Passes.{passed}
use Rattle.frame_grabber.specs.FrameGrabber.{blank}
use Rattle.frame_grabber.proofs.Runs.{reader, Along, along_start, taken_fits, left_less, along_next, along_end, refused_state}
use Rattle.frame_grabber.proofs.Grabber.grab.Goals as goal

pub loop-progress-init : goal.loop-progress-init
loop-progress-init c =
    let e = c.is_sound.ensures in
    (along_start _ _ _ _ _ _ (record { byte = e.1; test = passed _ (sym e.0 ∙ c.if-is_sound.true) }), search rules, refl)

pub overflow_add-at : goal.overflow_add-at
unfolding blank
overflow_add-at c =
    let more = sym c.goes_on.ensures ∙ c.loop-progress-test.true in
    omega (arith, taken_fits c.loop-progress.invariant.0 (λ i. (c.shared_slice_known-1.given i).fits) more c.loop-progress.invariant.1 c.run-t.ensures, c.well_formed.1.0.1)

pub loop-progress-smaller : goal.loop-progress-smaller
unfolding blank
loop-progress-smaller c =
    let more = sym c.goes_on.ensures ∙ c.loop-progress-test.true in
    left_less c.loop-progress.invariant.0 (λ i. (c.shared_slice_known-1.given i).fits) more c.loop-progress.invariant.1 c.run-t.ensures

pub loop-progress-preserved : goal.loop-progress-preserved
unfolding blank
loop-progress-preserved c =
    let more = sym c.goes_on.ensures ∙ c.loop-progress-test.true in
    (along_next c.loop-progress.invariant.0 (λ i. (c.shared_slice_known-1.given i).fits) more c.loop-progress.invariant.1 c.run-t.ensures c.take-g.ensures, search rules, search rules)

pub overflow_sub-result : goal.overflow_sub-result
overflow_sub-result c = c.loop-progress.invariant.0.forward

pub shape_of-rows-then-is_sound : goal.shape_of-rows-then-is_sound
shape_of-rows-then-is_sound c = c.loop-progress.invariant.2

pub returns-then-is_sound : goal.returns-then-is_sound
returns-then-is_sound c =
    along_end c.loop-progress.invariant.0 (sym c.is_sound.ensures.0 ∙ c.if-is_sound.true) (sym c.goes_on.ensures ∙ c.loop-progress-test.false)

pub returns : goal.returns
returns c = refused_state _ _ _ (sym c.is_sound.ensures.0 ∙ c.if-is_sound.false)
