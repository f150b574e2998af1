-- What is found decides: a setting is saved as it is, a refusal is passed on.
use borrow.Author.Rules.{rules}
use Rattle.saved_setting.specs.SavedSettings.{saved_again}
use Rattle.saved_places.proofs.back_in.Goals as goal

pub returns-in-Ok : goal.returns-in-Ok
unfolding saved_again
returns-in-Ok c = record { answers = simp (c.save_next.ensures.answers, ← c.in-Ok.ensures); leaves = simp (c.save_next.ensures.leaves, ← c.in-Ok.ensures) }

pub returns-in-Err : goal.returns-in-Err
unfolding saved_again
returns-in-Err c = record { answers = simp (c.refused.ensures.0, ← c.in-Err.ensures); leaves = simp (c.refused.ensures.1, ← c.in-Err.ensures) }
