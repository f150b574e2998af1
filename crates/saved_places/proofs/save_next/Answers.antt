-- The newest version is the last one there is, or has one after it.
use borrow.Author.Rules.{rules}
use borrow.Author.Tests.{eq-eqb, ne_eqb}
use Rattle.saved_setting.specs.SavedSettings.{saved_next}
use Rattle.saved_places.proofs.save_next.Goals as goal

pub returns-then-newest : goal.returns-then-newest
unfolding saved_next
returns-then-newest c = record { answers = simp (c.refused.ensures.0, ← c.newest_version-newest.ensures, eq-eqb _ _ c.if-newest.true); leaves = simp (c.refused.ensures.1, ← c.newest_version-newest.ensures, eq-eqb _ _ c.if-newest.true) }

pub returns : goal.returns
unfolding saved_next
returns c = record { answers = simp (← c.newest_version-newest.ensures, ne_eqb _ _ c.if-newest.false); leaves = simp (c.save_into.ensures, c.renumber.ensures, ← c.newest_version-newest.ensures, ne_eqb _ _ c.if-newest.false) }
