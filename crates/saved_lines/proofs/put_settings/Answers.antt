-- At each turn the text of the first i places is written.
use mathlib.Core.Path.{◌≡◌}
use native.Mathlib.Omega.{arith}
use Rattle.text.specs.PagesLaws.{next, nothing}
use Rattle.saved_lines.specs.SavedLines.{settings_text}
use Rattle.saved_lines.specs.SavedLinesLaws.{lines_more}
use Rattle.saved_lines.proofs.put_settings.Goals as goal

pub loop-setting-init : goal.loop-setting-init
loop-setting-init c = nothing _

pub returns : goal.returns
unfolding settings_text
returns c =
    let eight : c.loop-setting.setting-index ≡ 8 = omega (arith, c.loop-setting-test.false) in
    rw eight at c.loop-setting.invariant

pub loop-setting-preserved : goal.loop-setting-preserved
loop-setting-preserved c =
    rw (lines_more c.args.list c.loop-setting.setting-index) (next c.loop-setting.invariant c.put_place.ensures)
