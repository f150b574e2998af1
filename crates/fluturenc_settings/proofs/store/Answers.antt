-- One place after another is stored, and nothing else is left of 64 bytes.
use Rattle.std.proofs.Common.{◌≡◌, ◌∙◌, arith}
use Rattle.saved_setting.specs.declared.SavedSetting.{SavedSetting}
use Rattle.fluturenc_settings.proofs.Storing.{place_stored, places_stored}
use Rattle.fluturenc_settings.proofs.store.Goals as goal

abbrev absent : SavedSetting
absent = record { version = 0; fine = 0; coarse = 0; gain = 0; divisor = 0 }

pub loop-i-preserved : goal.loop-i-preserved
loop-i-preserved c =
    rw c.loop-i.invariant at c.store_setting.ensures ∙ place_stored c.args.places absent c.args.list.now c.loop-i.i (omega arith)

pub returns : goal.returns
returns c =
    let i : c.loop-i.i ≡ 8 = omega arith in
    rw i at c.loop-i.invariant ∙ places_stored c.args.places c.args.list.now (omega arith) c.requires
