-- The report fits in the room that is asked for it, so it is put whole at the place.
use native.Mathlib.Omega.{arith}
use Rattle.verdict_report.specs.Report.{report_room, report_if_room}
use Rattle.verdict_report.specs.ReportLaws.{report_short}
use Rattle.lister_laws.specs.PartLaws.{part_put}
use borrow.Author.Rules.{rules}
use Rattle.list_frames.proofs.put_findings.Goals as goal

pub returns : goal.returns
unfolding report_if_room
returns c =
    let args = c.args in
    rw (← c.of-verdict.ensures)
    (part_put report_room _ _ _ _ _ c.requires (report_short args.findings args.lost c.of-verdict.result) c.put_report.ensures.count c.put_report.ensures.leaves)
