-- At each turn the text of the first i places is written.
use Rattle.text.specs.Pages.{Writes}
use Rattle.saved_lines.specs.SavedLines.{place_lines}
use Rattle.saved_lines.proofs.put_settings.Given as goal

abbrev pub invariant-loop-setting : goal.invariant-loop-setting
invariant-loop-setting l = Writes (place_lines l.setting-index l.fn.list) l.initial.page l.page
