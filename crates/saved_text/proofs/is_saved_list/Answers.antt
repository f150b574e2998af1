-- The answer for version 0 says whether the list is ordered.
use mathlib.Core.Path.{ap, ◌∙◌}
use Rattle.saved_text.specs.SettingsTextLaws.{is_not_held, zero_not_held}
use Rattle.saved_text.proofs.is_saved_list.Goals as goal

pub returns-in-Ok : goal.returns-in-Ok
returns-in-Ok c = ap is_not_held c.in-Ok.ensures ∙ zero_not_held c.args.list

pub returns-in-Err : goal.returns-in-Err
returns-in-Err c = c.eq.ensures ∙ ap is_not_held c.in-Err.ensures ∙ zero_not_held c.args.list
