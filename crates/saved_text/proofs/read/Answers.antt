-- Both tests are made of the list of the text's numbers, the second where the first is passed.
use Rattle.saved_text.specs.SettingsText.{is_settings_text}
use Rattle.saved_text.proofs.read.Goals as goal

pub returns-then-is_settings_text : goal.returns-then-is_settings_text
unfolding is_settings_text
returns-then-is_settings_text c =
    simp (← c.gather-list.ensures, ← c.is_settings_text.ensures, c.if-is_settings_text.true, c.is_saved_list-valid.ensures)

pub returns : goal.returns
unfolding is_settings_text
returns c = simp (← c.gather-list.ensures, ← c.is_settings_text.ensures, c.if-is_settings_text.false)
