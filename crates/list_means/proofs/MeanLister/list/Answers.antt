-- At each turn what is left brings what the whole does; a run takes some nibbles, until none is left, or no room for a row.
use mathlib.Core.Path.{◌≡◌, sym, ◌∙◌}
use Prim.Native.Nat.{◌-◌, ◌*◌}
use native.Mathlib.Omega.{arith}
use lib.ListN.{length}
use borrow.Author.Rules.{rules}
use Rattle.profile.specs.Profile.{longest}
use Rattle.reader_laws.proofs.Passes.{passed}
use Rattle.text.specs.PutLaws.{put_length, put_within}
use Rattle.lister_laws.proofs.RunLaws.{Along, along_start, taken_fits, left_less, text_fits}
use Rattle.list_means.proofs.Runs.{lister, by_reader, means_next, means_end, nothing_listed}
use Rattle.list_means.proofs.MeanLister.list.Goals as goal

pub loop-body-init : goal.loop-body-init
loop-body-init c =
    let e = c.is_sound.ensures in
    (along_start by_reader _ _ _ _ (record { byte = e.1; test = passed _ (sym e.0 ∙ c.if-is_sound.true) }), search rules, search rules)

pub overflow_sub-out : goal.overflow_sub-out
overflow_sub-out c = put_within c.loop-body.invariant.0.text_put

pub overflow_add-at : goal.overflow_add-at
overflow_add-at c =
    let more = sym c.goes_on.ensures ∙ c.loop-body-test.true in
    omega (arith, taken_fits c.loop-body.invariant.0 (λ i. (c.shared_slice_known-1.given i).fits) more c.loop-body.invariant.1 c.loop-body.invariant.2 c.run-t.ensures, c.well_formed.1.0.1)

pub put_text-used-requires : goal.put_text-used-requires
put_text-used-requires c =
    let more = sym c.goes_on.ensures ∙ c.loop-body-test.true in
    (search rules, text_fits c.loop-body.invariant.0 (λ i. (c.shared_slice_known-1.given i).fits) more c.loop-body.invariant.1 c.loop-body.invariant.2 c.run-t.ensures)

pub loop-body-smaller : goal.loop-body-smaller
loop-body-smaller c =
    let more = sym c.goes_on.ensures ∙ c.loop-body-test.true in
    left_less c.loop-body.invariant.0 (λ i. (c.shared_slice_known-1.given i).fits) more c.loop-body.invariant.1 c.loop-body.invariant.2 c.run-t.ensures

pub loop-body-preserved : goal.loop-body-preserved
loop-body-preserved c =
    let more = sym c.goes_on.ensures ∙ c.loop-body-test.true in (
      means_next c.loop-body.invariant.0 (λ i. (c.shared_slice_known-1.given i).fits) more c.loop-body.invariant.1 c.loop-body.invariant.2 c.run-t.ensures c.after-awaits.ensures c.put_text-used.ensures,
      search (rules, c.run-t.auto.body, c.loop-body.invariant.1),
      search (rules, c.run-t.auto.line, c.loop-body.invariant.2),
    )

pub overflow_sub-result : goal.overflow_sub-result
overflow_sub-result c = c.loop-body.invariant.0.forward

pub shape_of-out-then-is_sound : goal.shape_of-out-then-is_sound
shape_of-out-then-is_sound c = put_length c.loop-body.invariant.0.text_put

pub returns-then-is_sound : goal.returns-then-is_sound
returns-then-is_sound c =
    means_end c.loop-body.invariant.0 (sym c.is_sound.ensures.0 ∙ c.if-is_sound.true) (sym c.goes_on.ensures ∙ c.loop-body-test.false)

pub returns : goal.returns
returns c = nothing_listed _ _ _ (sym c.is_sound.ensures.0 ∙ c.if-is_sound.false)
