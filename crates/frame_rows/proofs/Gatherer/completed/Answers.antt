-- What `keep` says of the last row decides: with it the rows are the frame's, and none are kept for the next; or 12, and nothing changes.
use mathlib.Core.Path.{sym, ap, ◌∙◌}
use Rattle.std.specs.Prelude.{Ok, Some}
use Rattle.frame_rows.specs.declared.Gatherer.{Gatherer}
use Rattle.frame_rows.specs.FrameRows.{saying, completed}
use Rattle.frame_rows.proofs.Answering.{gives, fits, fits_not}
use Rattle.frame_rows.proofs.Gatherer.completed.Goals as goal

pub returns-in-None : goal.returns-in-None
unfolding completed
returns-in-None c =
    let row = c.keep.ensures in
    gives _ _ _ _ _ c.refused.ensures (simp (row.leaves, fits_not _ _ (sym c.in-None.is ∙ row.ending)))

pub returns-in-Some : goal.returns-in-Some
unfolding completed
returns-in-Some c =
    let row = c.keep.ensures in
    let fit = fits _ (sym c.in-Some.is ∙ row.ending) in
    gives _ _ (Ok (Some c.in-Some.end)) _ _ (ap (λ (s : Gatherer). saying s (Ok (Some c.in-Some.end))) c.moved-gatherer.ensures)
    (simp (row.leaves, fit.0, fit.1))
