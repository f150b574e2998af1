-- The lines fit in ROOM bytes, so they are put whole at the front; in less room nothing is put.
use Rattle.std.proofs.Common.{refl, le_trans, rules}
use borrow.Author.Tests.{lt-ltb, le-ltb}
use Rattle.text.specs.PagesLaws.{at_front}
use Rattle.verdict_report.specs.Report.{report_if_room}
use Rattle.verdict_report.specs.ReportLaws.{report_short}
use Rattle.verdict_report.proofs.put_report.Goals as goal

pub returns-then-out-lt-ROOM : goal.returns-then-out-lt-ROOM
unfolding report_if_room
returns-then-out-lt-ROOM c = simp (lt-ltb _ _ c.if-out-lt-ROOM.true) (record { count = refl; leaves = refl })

pub returns : goal.returns
unfolding report_if_room
returns c =
    let room = c.if-out-lt-ROOM.false in
    let a = c.args in
    simp (le-ltb _ _ room)
    (search (rules, at_front c.new-page.ensures c.put_lines.ensures (le_trans (report_short a.findings a.lost a.verdict) room)))
