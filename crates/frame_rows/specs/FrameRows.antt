-- The rows of a complete profile 0 frame, gathered from the reader's answers (02, A1, A2 and A13).
use Rattle.std.specs.Prelude.{◌≡◌, cond, List, ℕ, ◌+◌, take, None, Option, Some, Err, Ok, Result}
use Rattle.refusal.specs.declared.Refusal.{Refusal}
use Rattle.refusal.specs.Refusal.{no_room}
use Rattle.profile.specs.declared.Profile.TheVariants.{VV5404}
use Rattle.profile.specs.Profile.{width}
use Rattle.stream.specs.declared.Answer.{Answer}
use Rattle.frame_handing.specs.declared.HandedLine.{HandedLine}
use Rattle.frame_judge.specs.declared.Judge.{Judge}
use Rattle.frame_judge.specs.declared.Judge.TheVariants.{Waiting, Due}
use Rattle.frame_judge.specs.declared.Ruling.{Ruling}
use Rattle.frame_judge.specs.declared.Ruling.TheVariants as ruling
use Rattle.frame_judge.specs.Frame.{breaks_frame}
use Rattle.frame_judge.specs.Calls.{Line, line, called}
use Rattle.frame_handing.specs.Handing.{handed_over}
use Rattle.frame_row.specs.declared.Keeping.{Keeping}
use Rattle.frame_row.specs.FrameRow.{row_size, row_fits, with_row}
use Rattle.frame_rows.specs.declared.Gatherer.{Gatherer}
use Rattle.frame_rows.specs.declared.Gathered.{Gathered}

-- what is handed to the judge, and the line's body
pub record Shown : Type 0 where
  pub given : Line
  pub body : List ℕ

-- What a call says and leaves.

-- nothing yet; a complete frame's rows, with their length; or a refusal with its number
pub data Output : Type 0 where
  nothing : Output
  complete : ℕ → List ℕ → Output
  refused : ℕ → Output

-- the program's answer: nothing yet; the length of a complete frame's rows; or a refusal
abbrev pub Progress : Type 0
Progress = Result (Option ℕ) Refusal

-- the paper's number and values of each case of the program's answer: the rows are the front of their buffer
abbrev pub output_of : Progress → List ℕ → Output
output_of (Ok None) buffer = nothing
output_of (Ok (Some n)) buffer = complete n (take n buffer)
output_of (Err r) buffer = refused r.0

-- after a call: the gatherer, what is said, and the rows' buffer
pub record AfterCall : Type 0 where
  pub gatherer : Gatherer
  pub output : Output
  pub buffer : List ℕ

-- a call that answers, and leaves the buffer, so
pub record Gathers (o : AfterCall) (answer : Gathered) (after : List ℕ) : Type 0 where
  pub next : answer.gatherer ≡ o.gatherer
  pub says : output_of answer.progress after ≡ o.output
  pub leaves : after ≡ o.buffer

-- A line handed to the judge.

-- a fresh judge, and no rows
abbrev pub fresh : Keeping → Gatherer
fresh k = record { judge = Waiting; kept = 0; keeping = k }

-- the judge afterwards, and the bytes of rows that are kept then
abbrev pub moved : Gatherer → Judge → ℕ → Gatherer
moved s j kept = record { judge = j; kept = kept; keeping = s.keeping }

-- the program's answer
abbrev pub saying : Gatherer → Progress → Gathered
saying s p = record { gatherer = s; progress = p }

-- nothing is said
abbrev pub quiet : Gatherer → List ℕ → AfterCall
quiet s buffer = record { gatherer = s; output = nothing; buffer = buffer }

-- a refused call changes nothing
abbrev pub refuses : Gatherer → ℕ → List ℕ → AfterCall
refuses s n buffer = record { gatherer = s; output = refused n; buffer = buffer }

-- the place of the line that is due: the first, while the judge waits
abbrev pub place_due : Judge → ℕ
place_due Waiting = 0
place_due (Due place b) = place

-- a line that was due, and not the last; 12 where its row does not fit
unfoldable pub row_kept : Gatherer → Judge → ℕ → ℕ → ℕ → List ℕ → List ℕ → AfterCall
row_kept s j kept place kind body buffer =
    cond (row_fits s.keeping kept kind body buffer)
    (quiet (moved s j (kept + row_size s.keeping kind)) (with_row s.keeping kept place kind body buffer))
    (refuses s no_room buffer)

-- n bytes of rows, at the front of their buffer, are a frame's; none are kept for the next
abbrev pub completing : Gatherer → Judge → ℕ → List ℕ → AfterCall
completing s j n buffer = record { gatherer = moved s j 0; output = complete n (take n buffer); buffer = buffer }

-- a frame's last line; 12 where its row does not fit
unfoldable pub completed : Gatherer → Judge → ℕ → ℕ → List ℕ → List ℕ → AfterCall
completed s j place kind body buffer =
    cond (row_fits s.keeping s.kept kind body buffer)
    (completing s j (s.kept + row_size s.keeping kind) (with_row s.keeping s.kept place kind body buffer))
    (refuses s no_room buffer)

-- a line that breaks a frame: its rows are dropped; an SOF numbered 0 opens a new frame at once, whose first row is that line's
unfoldable pub after_break : Gatherer → Judge → ℕ → List ℕ → List ℕ → AfterCall
after_break s Waiting kind body buffer = quiet (moved s Waiting 0) buffer
after_break s (Due place b) kind body buffer = row_kept s (Due place b) 0 0 kind body buffer

-- 18 and 19 break the frame; 11, 13 and 14 change nothing
unfoldable pub refused_by : Gatherer → Judge → ℕ → ℕ → List ℕ → List ℕ → AfterCall
refused_by s j n kind body buffer = cond (breaks_frame n) (after_break s j kind body buffer) (refuses s n buffer)

-- what becomes of the rows, by the judge's ruling
abbrev pub by_ruling : Gatherer → Shown → List ℕ → Judge → Ruling → AfterCall
by_ruling s l buffer j ruling.Waiting = quiet (moved s j 0) buffer
by_ruling s l buffer j ruling.Going = row_kept s j s.kept (place_due s.judge) l.given.kind l.body buffer
by_ruling s l buffer j ruling.Complete = completed s j (place_due s.judge) l.given.kind l.body buffer
by_ruling s l buffer j (ruling.Refused r) = refused_by s j r.0 l.given.kind l.body buffer

-- a line that is handed to the judge
unfoldable pub handed : Gatherer → Shown → List ℕ → AfterCall
handed s l buffer = by_ruling s l buffer (called VV5404 s.judge l.given).judge (called VV5404 s.judge l.given).ruling

-- An answer.

-- a kind and number, with the body at the front of the line buffer
abbrev pub shown_as : ℕ → ℕ → List ℕ → Shown
shown_as k n held = record { given = line k n; body = take width held }

-- what is handed to the judge, with the line buffer and the rows' buffer
abbrev pub handing : Gatherer → Option HandedLine → List ℕ → List ℕ → AfterCall
handing s None held buffer = quiet s buffer
handing s (Some l) held buffer = handed s (shown_as l.kind l.number held) buffer

-- an answer taken, with the line buffer as its call left it
unfoldable pub take_of : Gatherer → Answer → List ℕ → List ℕ → AfterCall
take_of s a held buffer = handing s (handed_over a) held buffer
