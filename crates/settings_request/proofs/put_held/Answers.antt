-- What is found is its line, and a refusal its own.
use Rattle.settings_request.specs.SettingsRequest.{held_line}
use Rattle.settings_request.proofs.put_held.Goals as goal

pub returns-in-Ok : goal.returns-in-Ok
unfolding held_line
returns-in-Ok c =
    simp (← c.in-Ok.ensures) c.put_setting.ensures

pub returns-in-Err : goal.returns-in-Err
unfolding held_line
returns-in-Err c =
    simp (← c.in-Err.ensures) c.put_refusal.ensures
