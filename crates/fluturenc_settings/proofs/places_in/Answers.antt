-- One place after another is read, and 64 bytes hold a list.
use Rattle.std.proofs.Common.{◌≡◌, sym, ◌∙◌, arith, length-set, take_all}
use Rattle.fluturenc_settings.specs.SavedBytesLaws.{held_list}
use Rattle.fluturenc_settings.proofs.Reading.{place_read}
use Rattle.fluturenc_settings.proofs.places_in.Goals as goal

pub loop-i-preserved : goal.loop-i-preserved
loop-i-preserved c =
    let l = c.loop-i.invariant in
    (simp length-set l.0, place_read c.args.list.now c.loop-i.i c.loop-i.places _ (omega (arith, l.0)) l.1 c.setting_at.ensures)

pub returns : goal.returns
returns c =
    let l = c.loop-i.invariant in
    let i : c.loop-i.i ≡ 8 = omega arith in
    sym (take_all 8 c.loop-i.places (omega (arith, l.0)))
    ∙ rw i at l.1
    ∙ held_list c.args.list.now c.requires
