-- A complete frame's rows are within the rows' buffer.
use Rattle.std.proofs.Common.{ap, ◌∙◌}
use Rattle.std.specs.Prelude.{Ok}
use Rattle.frame_rows.specs.FrameRows.{Progress}
use Rattle.frame_grabber.specs.PieceLaws.{rows_within}
use Rattle.frame_file.proofs.seek.Goals as goal

pub returns-in-Some : goal.returns-in-Some
returns-in-Some c =
    rows_within _ _ _ _ _ _ c.grab-grabbed.ensures (c.in-Ok.is ∙ ap {B = Progress} Ok c.in-Some.is)
