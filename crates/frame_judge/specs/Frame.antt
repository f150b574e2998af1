-- The judge of frames (01, 'Frames of profile 0'; 000, 'Frame Level Formatting' and 'Line Level Formatting' for the VV5300).
use Rattle.std.specs.Prelude.{◌≡◌, Bool, true, ◌&&◌, ◌||◌, cond, ℕ, ◌+◌, eqb, leb, ltb, None, Option, Some}
use Rattle.refusal.specs.Refusal.{bad_state, bad_kind, number_too_large, not_the_line_due, broken_line}
use Rattle.line_code.specs.declared.Kind.TheVariants.{VL, SOF, EOF}
use Rattle.line_code.specs.LineCode.{kind_number}
use Rattle.line_number.specs.LineNumber.{greatest}
use Rattle.profile.specs.declared.Profile.{Profile}
use Rattle.frame_layout.specs.declared.Borders.TheVariants.{On, Off}
use Rattle.frame_layout.specs.FrameLayout.{last_place, settling_place, due_at}
use Rattle.frame_judge.specs.declared.Judge.{Judge}
use Rattle.frame_judge.specs.declared.Judge.TheVariants.{Waiting, Due}
use Rattle.frame_judge.specs.declared.Ruling.{Ruling}
use Rattle.frame_judge.specs.declared.Ruling.TheVariants as ruling
use Rattle.frame_judge.specs.declared.Judged.{Judged}
use Rattle.frame_layout.specs.declared.Borders.{Borders}

-- the judge's own test: waiting; due at place 1 up to the settling place, unsettled; due after it up to the last, settled
abbrev pub within : ℕ → ℕ → ℕ → Bool
within from to n = leb from n && leb n to

-- the judge's own test: a state that calls can reach
abbrev pub passes : Profile → Judge → Bool
passes p Waiting = true
passes p (Due place None) = within 1 (settling_place p) place
passes p (Due place (Some b)) = within (settling_place p + 1) (last_place p) place

-- a line is the one due: with the borders settled, or, while they are not, with either setting
abbrev pub line_due : Profile → Option Borders → ℕ → ℕ → ℕ → Bool
line_due p None place k n = due_at p On place k n || due_at p Off place k n
line_due p (Some b) place k n = due_at p b place k n

-- the borders after a line that was due: at the settling place a VL settles them on, a BL off
abbrev pub settled_by : Profile → Option Borders → ℕ → ℕ → Option Borders
settled_by p None place k = cond (ltb place (settling_place p)) None (Some (cond (eqb k (kind_number VL)) On Off))
settled_by p (Some b) place k = Some b

-- what the judge says, in 01's words: Waiting, Going, Complete, or a refusal with its number
pub data Said : Type 0 where
  still_waiting : Said
  on_going : Said
  whole_frame : Said
  refused : ℕ → Said

-- 01's words and number of each case of the program's ruling
abbrev pub said_of : Ruling → Said
said_of ruling.Waiting = still_waiting
said_of ruling.Going = on_going
said_of ruling.Complete = whole_frame
said_of (ruling.Refused r) = refused r.0

-- the program's ruling that says this
abbrev pub ruling_for : Said → Ruling
ruling_for still_waiting = ruling.Waiting
ruling_for on_going = ruling.Going
ruling_for whole_frame = ruling.Complete
ruling_for (refused n) = ruling.Refused (record { 0 = n })

-- a judge after a call, and what it answered
abbrev pub gives : Judge → Ruling → Judged
gives j v = record { judge = j; ruling = v }

-- a refusal, and the judge after it
abbrev pub refuses : Judge → ℕ → Judged
refuses j n = gives j (ruling_for (refused n))

-- a frame opens with an SOF numbered 0
abbrev pub opens : ℕ → ℕ → Bool
opens k n = eqb k (kind_number SOF) && eqb n 0

-- the judge at a frame's second line
abbrev pub begun : Judge
begun = Due 1 None

-- the kind number that stands for a broken line
abbrev pub broken_kind : ℕ
broken_kind = 0

-- a broken line
abbrev pub broken : Judge → Judged
broken Waiting = gives Waiting (ruling_for still_waiting)
broken (Due place s) = refuses Waiting broken_line

-- a line that is due: Going, or Complete at the last place, then waiting
abbrev pub due_taken : Profile → ℕ → Option Borders → ℕ → Judged
due_taken p place s k =
    cond (ltb place (last_place p)) (gives (Due (place + 1) (settled_by p s place k)) (ruling_for on_going)) (gives Waiting (ruling_for whole_frame))

-- a line that is not due: 18, then waiting; but an SOF numbered 0 opens a new frame at once
abbrev pub astray : ℕ → ℕ → Judged
astray k n = cond (opens k n) (refuses begun not_the_line_due) (refuses Waiting not_the_line_due)

-- a line while waiting: an SOF numbered 0 opens a frame
abbrev pub first : ℕ → ℕ → Judged
first k n = cond (opens k n) (gives begun (ruling_for on_going)) (gives Waiting (ruling_for still_waiting))

-- a whole line of a kind and number
abbrev pub whole : Profile → Judge → ℕ → ℕ → Judged
whole p Waiting k n = first k n
whole p (Due place s) k n = cond (line_due p s place k n) (due_taken p place s k) (astray k n)

-- one call: 11, 13, 14, which change nothing; a broken line (kind 0), whose number isn't looked at; or a whole line
unfoldable pub judge_of : Profile → Judge → ℕ → ℕ → Judged
judge_of p j k n =
    cond (passes p j)
    (cond (leb k (kind_number EOF))
    (cond (eqb k broken_kind) (broken j) (cond (leb n greatest) (whole p j k n) (refuses j number_too_large)))
    (refuses j bad_kind))
    (refuses j bad_state)

-- a call that leaves this judge, and says this
pub record JudgedAs (wanted r : Judged) : Type 0 where
  pub leaves : r.judge ≡ wanted.judge
  pub says : said_of r.ruling ≡ said_of wanted.ruling

-- 18 and 19 break a frame; 11, 13 and 14 leave the judge as it was
abbrev pub breaks_frame : ℕ → Bool
breaks_frame refusal = eqb refusal not_the_line_due || eqb refusal broken_line
