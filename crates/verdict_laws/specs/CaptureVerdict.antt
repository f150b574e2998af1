-- The verdict on a whole capture, from its answers and finish's; and what it depends on. Definitions only.
use Rattle.std.specs.Prelude.{◌≡◌, Bool, true, false, ◌&&◌, ◌||◌, not, cond, List, [], ◌∷◌, ◌++◌, ◌↔◌, eqb, leb, ltb, length}
use Rattle.counts.specs.CountsLaws.{some}
use Rattle.profile.specs.declared.Profile.{Profile}
use Rattle.stream.specs.declared.Answer.{Answer}
use Rattle.stream.specs.declared.Answer.TheVariants as answer
use Rattle.stream.specs.Answers.{is_answer}
use Rattle.signal_tally.specs.Signal.{refusals}
use Rattle.signal_tally.specs.Seen.{answers_of, from_start}
use Rattle.frame_judge.specs.declared.Judge.{Judge}
use Rattle.frame_judge.specs.declared.Judge.TheVariants.{Waiting, Due}
use Rattle.frame_judge.specs.declared.Ruling.{Ruling}
use Rattle.frame_layout.specs.FrameLayout.{last_place}
use Rattle.frame_judge.specs.Frame.{opens, broken_kind}
use Rattle.frame_judge.specs.Calls.{Line, called, rulings, is_complete, is_break}
use Rattle.frame_handing.specs.Handing.{all_handed}
use Rattle.frame_tally.specs.Tally.{is_unfinished}
use Rattle.findings.specs.declared.Findings.{Findings}
use Rattle.verdict.specs.declared.Verdict.{Verdict}
use Rattle.verdict.specs.declared.Verdict.TheVariants.{Good, CheckTheClip, NotGood, NoSignal}
use Rattle.findings.specs.Findings.{no_findings, take_of, close_of}
use Rattle.verdict.specs.Verdict.{verdict_of}

-- the findings after some answers; of a whole capture, by its answers and finish's; and the verdict on it, where the signal may be lost
abbrev pub found : Findings → List Answer → Findings
found f [] = f
found f (a ∷ w) = found (take_of f a).findings w

-- what is found in a whole capture
abbrev pub capture_findings : Profile → List Answer → Answer → Findings
capture_findings p w last = (close_of (found (no_findings p) w) last).findings

-- the verdict on a whole capture
abbrev pub capture_verdict : Profile → List Answer → Answer → Bool → Verdict
capture_verdict p w last lost = verdict_of (capture_findings p w last) lost

-- Marks and frames.

-- some answer is a mark's
abbrev pub mark_came : List Answer → Answer → Bool
mark_came w last = some is_answer (w ++ (last ∷ []))

-- what the judge ruled, handed what 01 hands it, but for a line that the end of the capture cut off (finish's 3)
abbrev pub capture_rulings : Profile → List Answer → Answer → List Ruling
capture_rulings p w last = rulings p Waiting (all_handed (w ++ cond (is_unfinished last) [] (last ∷ [])))

-- a frame is complete; a frame is broken, with 18 or 19
abbrev pub frame_complete : Profile → List Answer → Answer → Bool
frame_complete p w last = some is_complete (capture_rulings p w last)

-- a frame of the capture is broken
abbrev pub frame_broken : Profile → List Answer → Answer → Bool
frame_broken p w last = some is_break (capture_rulings p w last)

-- Lines outside frames, of those handed to the judge before finish.

-- a line opens a frame: an SOF numbered 0
abbrev pub is_opening : Line → Bool
is_opening l = opens l.kind l.number

-- the lines before the first that opens a frame, and those from it on
abbrev pub before_first : List Line → List Line
before_first [] = []
before_first (l ∷ ls) = cond (is_opening l) [] (l ∷ before_first ls)

-- the lines from the first frame's start on
abbrev pub from_first : List Line → List Line
from_first [] = []
from_first (l ∷ ls) = cond (is_opening l) (l ∷ ls) (from_first ls)

-- a line that was given out, not a broken one
abbrev pub is_whole : Line → Bool
is_whole l = not (eqb l.kind broken_kind)

-- the lines that are not broken
abbrev pub whole_lines : List Line → List Line
whole_lines [] = []
whole_lines (l ∷ ls) = cond (is_whole l) (l ∷ whole_lines ls) (whole_lines ls)

-- some whole line finds the judge waiting and leaves it so
abbrev pub is_waiting : Judge → Bool
is_waiting Waiting = true
is_waiting (Due place b) = false

-- a line stands outside frames
abbrev pub some_outside : Profile → Judge → List Line → Bool
some_outside p j [] = false
some_outside p j (l ∷ ls) = is_whole l && (is_waiting j && is_waiting (called p j l).judge) || some_outside p (called p j l).judge ls

-- fewer lines than a frame has come before the first frame
abbrev pub few_before : Profile → List Answer → Bool
few_before p w = leb (length (whole_lines (before_first (all_handed w)))) (last_place p)

-- some line after the first frame's start is outside frames
abbrev pub line_outside : Profile → List Answer → Bool
line_outside p w = some_outside p Waiting (from_first (all_handed w))

-- Refused marks.

-- a mark is refused, with a number below 10
abbrev pub is_refused : Answer → Bool
is_refused answer.Nothing = false
is_refused (answer.Line f) = false
is_refused (answer.Gap g) = false
is_refused (answer.Refused r) = ltb r.0 refusals

-- some refused mark counts: not a first mark that is an end of line, and not finish's where the end cut off a line or a gap
abbrev pub mark_refused : List Answer → Answer → Bool
mark_refused w last = some is_refused (from_start (answers_of w last))

-- The verdict.

-- nothing is out of order
abbrev pub all_in_order : Profile → List Answer → Answer → Bool → Bool
all_in_order p w last lost =
    not lost && (not (frame_broken p w last) && (not (line_outside p w) && (few_before p w && not (mark_refused w last))))

-- exactly when each verdict comes
pub record Verdicts (p : Profile) (w : List Answer) (last : Answer) (lost : Bool) : Type 0 where
  -- not one mark
  pub no_signal : (capture_verdict p w last lost ≡ NoSignal) ↔ (mark_came w last ≡ false)
  -- marks, and no complete frame
  pub not_good : (capture_verdict p w last lost ≡ NotGood) ↔ ((mark_came w last ≡ true) × (frame_complete p w last ≡ false))
  -- a complete frame, and nothing out of order
  pub good : (capture_verdict p w last lost ≡ Good) ↔ ((frame_complete p w last ≡ true) × (all_in_order p w last lost ≡ true))
  -- a complete frame, and something out of order
  pub check : (capture_verdict p w last lost ≡ CheckTheClip) ↔ ((frame_complete p w last ≡ true) × (all_in_order p w last lost ≡ false))
