-- The parts, one after another.
use Rattle.std.proofs.Common.{rules}
use Rattle.text.specs.PagesLaws.{next}
use Rattle.verdict_report.specs.Report.{report_of}
use Rattle.verdict_report.proofs.put_lines.Goals as goal

pub returns : goal.returns
unfolding report_of
returns c =
    next c.put_frames.ensures
    (next c.put_signal.ensures
    (next c.put_lost.ensures (simp (← c.in_order-ordered.ensures) (next c.put_hint.ensures c.put_verdict.ensures))))
