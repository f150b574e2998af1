-- The frames of a capture, from the answers of the reader's calls (01, 'Frames of profile 0').
use Rattle.std.specs.Prelude.{Bool, false, cond, ℕ, eqb, None, Option, Some}
use Rattle.refusal.specs.declared.Refusal.{Refusal}
use Rattle.refusal.specs.Refusal.{unfinished_line}
use Rattle.profile.specs.declared.Profile.{Profile}
use Rattle.stream.specs.declared.Answer.{Answer}
use Rattle.stream.specs.declared.Answer.TheVariants as answer
use Rattle.frame_handing.specs.declared.HandedLine.{HandedLine}
use Rattle.frame_judge.specs.declared.Judge.{Judge}
use Rattle.frame_judge.specs.declared.Judge.TheVariants.{Waiting, Due}
use Rattle.frame_judge.specs.declared.Ruling.{Ruling}
use Rattle.frame_judge.specs.declared.Ruling.TheVariants as ruling
use Rattle.frame_judge.specs.Frame.{judge_of, breaks_frame}
use Rattle.frame_handing.specs.Handing.{handed_over}
use Rattle.counts.specs.Counts.{one_more}
use Rattle.frame_tally.specs.declared.Tally.{Tally}
use Rattle.frame_tally.specs.declared.News.{News}
use Rattle.frame_tally.specs.declared.News.TheVariants.{Nothing, Complete, Broken, Cut}
use Rattle.frame_tally.specs.declared.Told.{Told}
use Rattle.frame_layout.specs.declared.Borders.{Borders}

-- a fresh judge, and nothing counted
abbrev pub fresh_tally : Profile → Tally
fresh_tally p = record { profile = p; judge = Waiting; marks = 0; frames = 0; complete = 0; broken = 0 }

-- one mark more
abbrev pub marked : Tally → Tally
marked t = record { profile = t.profile; judge = t.judge; marks = one_more t.marks; frames = t.frames; complete = t.complete; broken = t.broken }

-- the frames that opened: one more where the judge waited before and is within a frame afterwards
abbrev pub opening : Judge → Judge → ℕ → ℕ
opening Waiting Waiting n = n
opening Waiting (Due place b) n = one_more n
opening (Due place b) j n = n

-- the judge afterwards; a frame that opens is counted
abbrev pub moved : Tally → Judge → Judge → Tally
moved t before j =
    record { profile = t.profile; judge = j; marks = t.marks; frames = opening before j t.frames; complete = t.complete; broken = t.broken }

-- What the judge's ruling tells.

-- no news
abbrev pub quiet : Tally → Told
quiet t = record { tally = t; news = Nothing }

-- the borders of the frame that a judge is in
abbrev pub borders_of : Judge → Option Borders
borders_of Waiting = None
borders_of (Due place s) = s

-- the frame is complete: its borders, and the mark of its last line
abbrev pub completed : Tally → Judge → Told
completed t j =
    record {
      tally = record { profile = t.profile; judge = j; marks = t.marks; frames = t.frames; complete = one_more t.complete; broken = t.broken };
      news = Complete t.frames (borders_of t.judge) t.marks;
    }

-- the frame is broken at this mark: the refusal, and the mark's own; a judge that is within a frame has opened another
abbrev pub broken_by : Tally → Judge → Refusal → Option Refusal → Told
broken_by t j refusal own =
    record {
      tally = record { profile = t.profile; judge = j; marks = t.marks; frames = opening Waiting j t.frames; complete = t.complete; broken = one_more t.broken };
      news = Broken t.frames t.marks refusal own;
    }

-- a refused line: news where it breaks a frame
unfoldable pub refused_by : Tally → Judge → Refusal → Option Refusal → Told
refused_by t j refusal own = cond (breaks_frame refusal.0) (broken_by t j refusal own) (quiet (moved t t.judge j))

-- by the judge's ruling
abbrev pub told : Tally → Option Refusal → Judge → Ruling → Told
told t own j ruling.Waiting = quiet (moved t t.judge j)
told t own j ruling.Going = quiet (moved t t.judge j)
told t own j ruling.Complete = completed t j
told t own j (ruling.Refused refusal) = refused_by t j refusal own

-- a line's kind number and number, or kind 0, handed to the judge; and the mark's own refusal, which a line has none of
unfoldable pub handed : Tally → ℕ → ℕ → Option Refusal → Told
handed t k n own = told t own (judge_of t.profile t.judge k n).judge (judge_of t.profile t.judge k n).ruling

-- An answer.

-- every answer but Nothing counts a mark
abbrev pub marked_by : Tally → Answer → Tally
marked_by t answer.Nothing = t
marked_by t (answer.Line f) = marked t
marked_by t (answer.Gap g) = marked t
marked_by t (answer.Refused r) = marked t

-- the refusal that a mark was answered, if it was refused
abbrev pub own_answer : Answer → Option Refusal
own_answer answer.Nothing = None
own_answer (answer.Line f) = None
own_answer (answer.Gap g) = None
own_answer (answer.Refused r) = Some r

-- what is handed to the judge; and the mark's own refusal
abbrev pub handing : Tally → Option HandedLine → Option Refusal → Told
handing t None own = quiet t
handing t (Some l) own = handed t l.kind l.number own

-- an answer counted
unfoldable pub take_of : Tally → Answer → Told
take_of t a = handing (marked_by t a) (handed_over a) (own_answer a)

-- The end of the capture.

-- a frame that the judge is still within is cut off: not complete, and not broken
abbrev pub cut_within : Tally → Judge → Told
cut_within t Waiting = quiet t
cut_within t (Due place b) = record { tally = moved t (Due place b) Waiting; news = Cut t.frames }

-- the end of a capture cuts an open frame off
unfoldable pub cut_of : Tally → Told
cut_of t = cut_within t t.judge

-- the capture ended within a line: finish's answer 3
abbrev pub is_unfinished : Answer → Bool
is_unfinished answer.Nothing = false
is_unfinished (answer.Line f) = false
is_unfinished (answer.Gap g) = false
is_unfinished (answer.Refused r) = eqb r.0 unfinished_line

-- what the last answer told; and where that is nothing, the frame that is cut off
abbrev pub ended : Told → News → Told
ended d Nothing = cut_of d.tally
ended d (Complete frame b mark) = d
ended d (Broken frame mark refusal own) = d
ended d (Cut frame) = d

-- an answer 3 counts its mark, and is not handed to the judge
unfoldable pub close_of : Tally → Answer → Told
close_of t last = cond (is_unfinished last) (cut_of (marked t)) (ended (take_of t last) (take_of t last).news)
