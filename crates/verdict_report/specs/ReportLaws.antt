-- How long a report can be.
use Rattle.std.specs.Prelude.{Bool, true, false, cond, [], ℕ, ◌≤◌, ltb, length}
use Rattle.std.proofs.Common.{arith, length-append}
use Rattle.text.specs.Text.{ascii}
use Rattle.text.specs.TextLaws.{decimal_short}
use Rattle.profile.specs.declared.Profile.{Profile}
use Rattle.profile.specs.declared.Profile.TheVariants.{VV5404, VV5300}
use Rattle.signal_tally.specs.declared.First.{First}
use Rattle.signal_tally.specs.declared.First.TheVariants.{Unseen, InsideLine, Other}
use Rattle.signal_report.specs.SignalReportLaws.{count_short, signal_short}
use Rattle.findings.specs.declared.Findings.{Findings}
use Rattle.verdict.specs.declared.Verdict.{Verdict}
use Rattle.verdict.specs.declared.Verdict.TheVariants.{Good, CheckTheClip, NotGood, NoSignal}
use Rattle.verdict.specs.Verdict.{in_order}
use Rattle.verdict_report.specs.Report.{frame_counts, frames_lines, lost_line, other_sensor, hint_by_first, hint_line, advice_line, verdict_line, report_of, report_room}

frames_short : (f : Findings) → length (frames_lines f) ≤ 210
unfolding frames_lines frame_counts
frames_short f =
    simp length-append
    (omega (
      arith,
      decimal_short f.tally.complete,
      decimal_short f.tally.broken,
      decimal_short f.cut,
      count_short (ascii "lines before the first frame: ") f.outside.early (ascii "\n"),
      count_short (ascii "lines outside frames: ") f.outside.later (ascii "\n"),
    ))

lost_short : (lost : Bool) → length (lost_line lost) ≤ 60
lost_short true = omega arith
lost_short false = omega arith

sensor_short : (p : Profile) → length (other_sensor p) ≤ 70
sensor_short VV5404 = omega arith
sensor_short VV5300 = omega arith

hint_short : (p : Profile) (ordered : Bool) (lines : ℕ) (f : First) → length (hint_line p ordered lines f) ≤ 70
unfolding hint_line
hint_short p true lines f = omega arith
hint_short p false lines f = either (ltb 0 lines) f
  where
    either : (b : Bool) (f : First) → length (cond b [] (hint_by_first p f)) ≤ 70
    either true f = omega arith
    either false Unseen = omega arith
    either false InsideLine = sensor_short p
    either false Other = sensor_short p

advice_short : (v : Verdict) (ordered : Bool) → length (advice_line v ordered) ≤ 90
advice_short Good ordered = omega arith
advice_short CheckTheClip ordered = omega arith
advice_short NotGood true = omega arith
advice_short NotGood false = omega arith
advice_short NoSignal ordered = omega arith

verdict_short : (v : Verdict) → length (verdict_line v) ≤ 20
verdict_short Good = omega arith
verdict_short CheckTheClip = omega arith
verdict_short NotGood = omega arith
verdict_short NoSignal = omega arith

-- no report is longer than the room that is asked for it
pub report_short : (f : Findings) (lost : Bool) (v : Verdict) → length (report_of f lost v) ≤ report_room
unfolding report_of
report_short f lost v =
    simp length-append
    (omega (
      arith,
      frames_short f,
      signal_short f.signal,
      lost_short lost,
      hint_short f.tally.profile (in_order f lost) f.signal.lines f.signal.first,
      advice_short v (in_order f lost),
      verdict_short v,
    ))
