-- What `keep` says of the row decides: it is put, and the rows end where it ends; or 12, and nothing changes.
use mathlib.Core.Path.{sym, ◌∙◌}
use Rattle.frame_rows.specs.FrameRows.{row_kept}
use Rattle.frame_rows.proofs.Answering.{gives, quietly, fits, fits_not}
use Rattle.frame_rows.proofs.Gatherer.keep_row.Goals as goal

pub returns-in-None : goal.returns-in-None
unfolding row_kept
returns-in-None c =
    let row = c.keep.ensures in
    gives _ _ _ _ _ c.refused.ensures (simp (row.leaves, fits_not _ _ (sym c.in-None.is ∙ row.ending)))

pub returns-in-Some : goal.returns-in-Some
unfolding row_kept
returns-in-Some c =
    let row = c.keep.ensures in
    let fit = fits _ (sym c.in-Some.is ∙ row.ending) in
    gives _ _ _ _ _ (quietly c.quiet.ensures c.moved.ensures) (simp (row.leaves, fit.0, fit.1))
