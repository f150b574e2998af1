-- Answers taken in a row: each call gets the gatherer and the rows' buffer that the call before left.
use Rattle.std.specs.Prelude.{◌≡◌, Bool, true, false, cond, List, [], ◌∷◌, ◌++◌, ℕ, suc, ◌+◌, ◌*◌, length}
use Rattle.line_code.specs.declared.Kind.TheVariants.{VL}
use Rattle.profile.specs.declared.Profile.TheVariants.{VV5404}
use Rattle.profile.specs.Profile.{width}
use Rattle.profile.specs.Layout.{rules, fits}
use Rattle.stream.specs.declared.Answer.{Answer}
use Rattle.frame_layout.specs.declared.Borders.{Borders}
use Rattle.frame_layout.specs.declared.Borders.TheVariants.{On, Off}
use Rattle.frame_layout.specs.FrameLayout.{last_place}
use Rattle.frame_judge.specs.Calls.{Line, IsFrame}
use Rattle.frame_handing.specs.Handing.{handed_lines}
use Rattle.picture_file.specs.PictureFile.{size}
use Rattle.picture_file.specs.declared.Format.{Format}
use Rattle.picture_file.specs.declared.Format.TheVariants.{Bordered, Plain}
use Rattle.line_records.specs.Lines.{line_size}
use Rattle.frame_row.specs.declared.Keeping.{Keeping}
use Rattle.frame_row.specs.declared.Keeping.TheVariants.{VisiblePixels, WholeLines}
use Rattle.frame_row.specs.FrameRow.{is_visible, kept_row}
use Rattle.frame_rows.specs.FrameRows.{Shown, Output, nothing, complete, refused, AfterCall, fresh, quiet, shown_as, take_of}

-- The rows of lines.

-- the rows of lines from a place of the frame on, top to bottom and end to end
abbrev pub kept_rows_from : Keeping → ℕ → List Shown → List ℕ
kept_rows_from k place [] = []
kept_rows_from k place (l ∷ ls) = kept_row k place l.given.kind l.body ++ kept_rows_from k (suc place) ls

-- the rows of a frame's lines
abbrev pub rows_of : Keeping → List Shown → List ℕ
rows_of k ls = kept_rows_from k 0 ls

-- Calls.

-- what a call is given: the reader's answer, and the line buffer as it is then
pub record Given : Type 0 where
  pub answer : Answer
  pub held : List ℕ

-- a call of the gatherer
abbrev pub call : AfterCall → Given → AfterCall
call x g = take_of x.gatherer g.answer g.held x.buffer

-- after some calls
abbrev pub calls : AfterCall → List Given → AfterCall
calls x [] = x
calls x (g ∷ gs) = calls (call x g) gs

-- before any: a fresh gatherer, and a buffer
abbrev pub start : Keeping → List ℕ → AfterCall
start k buffer = quiet (fresh k) buffer

-- The lines taken: those that 01 hands to the judge, of the calls that are not refused.

-- a call that is refused
abbrev pub is_refused_call : Output → Bool
is_refused_call nothing = false
is_refused_call (complete n rows) = false
is_refused_call (refused n) = true

-- lines, but none of a refused call
abbrev pub unless_refused : Output → List Shown → List Shown
unless_refused o ls = cond (is_refused_call o) [] ls

-- lines, each with the body in the line buffer
abbrev pub shown : List Line → List ℕ → List Shown
shown [] held = []
shown (l ∷ ls) held = shown_as l.kind l.number held ∷ shown ls held

-- the lines that calls one after another take
abbrev pub taken : AfterCall → List Given → List Shown
taken x [] = []
taken x (g ∷ gs) = unless_refused (call x g).output (shown (handed_lines g.answer) g.held) ++ taken (call x g) gs

-- refused or not
abbrev pub shown_all : List Given → List Shown
shown_all [] = []
shown_all (g ∷ gs) = shown (handed_lines g.answer) g.held ++ shown_all gs

-- shown lines as the judge sees them
abbrev pub lines_of : List Shown → List Line
lines_of [] = []
lines_of (l ∷ ls) = l.given ∷ lines_of ls

-- the picture of a frame
abbrev pub picture_of : Borders → Format
picture_of On = Bordered
picture_of Off = Plain

-- the bytes of a frame's rows: its picture's pixels, or its 304 lines
abbrev pub frame_size : Keeping → Borders → ℕ
frame_size (VisiblePixels o) b = size (picture_of b)
frame_size WholeLines b = line_size * (last_place VV5404 + 1)

-- a line's body has 356 bytes: the line buffer was not too short
abbrev pub WholeBody : Shown → Type 0
WholeBody l = length l.body ≡ width

-- a visible line's body is laid out as 01 says
abbrev pub Laid : Shown → Type 0
Laid l = is_visible l.given.kind ≡ true → fits (rules VV5404 VL) l.body ≡ true

-- of each line
abbrev pub Every : (Shown → Type 0) → List Shown → Type 0
Every P [] = Unit {0}
Every P (l ∷ ls) = P l × Every P ls

-- the lines taken end in those of a whole frame, and the rows are its rows, all of them
pub record CompletesRows (k : Keeping) (ls : List Shown) (n : ℕ) (rows : List ℕ) : Type 0 where
  pub borders : Borders
  pub earlier : List Shown
  pub frame : List Shown
  pub ends : ls ≡ earlier ++ frame
  pub whole : IsFrame VV5404 borders (lines_of frame)
  pub bodies : Every WholeBody frame
  pub shows : rows ≡ rows_of k frame
  pub sized : length rows ≡ frame_size k borders
  pub used : n ≡ length rows
