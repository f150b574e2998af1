-- Each field is the one that the definition has.
use mathlib.Core.Path.{refl}
use Rattle.saved_setting.specs.SavedSettings.{renumbered}
use Rattle.saved_setting.proofs.renumber.Goals as goal

pub returns : goal.returns
unfolding renumbered
returns c = refl
