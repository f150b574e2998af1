-- What is told of a whole capture: the report below its frames. A count that is 0 has no line.
use Rattle.std.specs.Prelude.{Bool, cond, List, [], ◌++◌, ℕ, ltb}
use Rattle.text.specs.Text.{ascii, decimal}
use Rattle.profile.specs.declared.Profile.{Profile}
use Rattle.profile.specs.declared.Profile.TheVariants.{VV5404, VV5300}
use Rattle.signal_tally.specs.declared.First.{First}
use Rattle.signal_tally.specs.declared.First.TheVariants.{Unseen, InsideLine, Other}
use Rattle.signal_report.specs.SignalReport.{count_line, signal_lines}
use Rattle.findings.specs.declared.Findings.{Findings}
use Rattle.verdict.specs.declared.Verdict.{Verdict}
use Rattle.verdict.specs.declared.Verdict.TheVariants.{Good, CheckTheClip, NotGood, NoSignal}
use Rattle.verdict.specs.Verdict.{in_order}

-- the frames, and the lines outside them
unfoldable pub frame_counts : Findings → List ℕ
frame_counts f =
    ascii "frames: " ++ (decimal f.tally.complete
    ++ (ascii " complete, " ++ (decimal f.tally.broken ++ (ascii " broken, " ++ (decimal f.cut ++ ascii " cut off\n")))))

-- the lines on frames, and on lines outside them
unfoldable pub frames_lines : Findings → List ℕ
frames_lines f =
    frame_counts f
    ++ (count_line (ascii "lines before the first frame: ") f.outside.early (ascii "\n")
    ++ count_line (ascii "lines outside frames: ") f.outside.later (ascii "\n"))

-- the line on a lost signal
abbrev pub lost_line : Bool → List ℕ
lost_line lost = cond lost (ascii "signal lost: no mark in the last part of the capture\n") []

-- marks, and no line: the capture may be the other sensor's
abbrev pub other_sensor : Profile → List ℕ
other_sensor VV5404 = ascii "no line of a VV5404; for a VV5300 head put vv5300 after frames\n"
other_sensor VV5300 = ascii "no line of a VV5300; for a VV5404 head put vv5404 after frames\n"

-- the hint at the other sensor, where marks came
abbrev pub hint_by_first : Profile → First → List ℕ
hint_by_first p Unseen = []
hint_by_first p InsideLine = other_sensor p
hint_by_first p Other = other_sensor p

-- the hint comes only where something is out of order: else the capture is a short one
unfoldable pub hint_line : Profile → Bool → ℕ → First → List ℕ
hint_line p ordered lines first = cond ordered [] (cond (ltb 0 lines) [] (hint_by_first p first))

-- no frame is complete: a capture in which nothing is out of order is too short
abbrev pub no_frame_line : Bool → List ℕ
no_frame_line ordered =
    cond ordered (ascii "nothing is out of order, but no whole frame came: take a longer capture\n")
    (ascii "no frame is complete: seat the clip again and take another capture\n")

-- what to do, by the verdict and whether nothing is out of order
abbrev pub advice_line : Verdict → Bool → List ℕ
advice_line Good ordered = []
advice_line CheckTheClip ordered = ascii "something is out of order: take another capture before anyone takes the head\n"
advice_line NotGood ordered = no_frame_line ordered
advice_line NoSignal ordered = ascii "no mark at all: is the head powered, and the clip on its bus?\n"

-- the verdict, in the last line
abbrev pub verdict_line : Verdict → List ℕ
verdict_line Good = ascii "GOOD\n"
verdict_line CheckTheClip = ascii "CHECK THE CLIP\n"
verdict_line NotGood = ascii "NOT GOOD\n"
verdict_line NoSignal = ascii "NO SIGNAL\n"

-- what to do, and the verdict
abbrev pub verdict_lines : Verdict → Bool → List ℕ
verdict_lines v ordered = advice_line v ordered ++ verdict_line v

-- the whole report
unfoldable pub report_of : Findings → Bool → Verdict → List ℕ
report_of f lost v =
    frames_lines f
    ++ (signal_lines f.signal
    ++ (lost_line lost
    ++ (hint_line f.tally.profile (in_order f lost) f.signal.lines f.signal.first ++ verdict_lines v (in_order f lost))))

-- The room.

-- the bytes that no report exceeds
abbrev pub report_room : ℕ
report_room = 2048

-- a report where a buffer of so many bytes has room for any; else nothing
unfoldable pub report_if_room : ℕ → List ℕ → List ℕ
report_if_room room report = cond (ltb room report_room) [] report
