-- Each field is the one that the definition has.
use borrow.Author.Rules.{rules}
use Rattle.saved_setting.specs.SavedSettings.{clipped}
use Rattle.saved_setting.proofs.clip.Goals as goal

pub returns : goal.returns
unfolding clipped
returns c = simp (c.lesser-2.ensures, c.lesser.ensures, c.fine_limit.ensures)
