-- A frame as the writer writes it, the picture of it, and the list of its lines. Definitions only.
use Rattle.std.specs.Prelude.{◌≡◌, Bool, true, ◌&&◌, not, List, [], ◌∷◌, ◌++◌, map, ℕ, suc, ◌≤◌, length}
use Rattle.line_code.specs.declared.Kind.{Kind}
use Rattle.line_code.specs.declared.Kind.TheVariants.{BL, BK, VL, SOF, EOF}
use Rattle.line_code.specs.LineCode.{kind_number}
use Rattle.profile.specs.declared.Profile.TheVariants.{VV5404}
use Rattle.stream.specs.Written.{Sent, AllWritable}
use Rattle.recovery.specs.Calls.{LineOut}
use Rattle.lent_buffer.specs.Filled.{used}
use Rattle.frame_layout.specs.declared.Borders.{Borders}
use Rattle.frame_judge.specs.Frame.{opens}
use Rattle.frame_judge.specs.Calls.{line, IsFrame}
use Rattle.picture_file.specs.PictureFile.{image_of, write_of}
use Rattle.line_records.specs.Lines.{in_two}
use Rattle.frame_row.specs.declared.Order.{Order}
use Rattle.frame_row.specs.declared.Keeping.{Keeping}
use Rattle.frame_row.specs.declared.Keeping.TheVariants.{VisiblePixels, WholeLines}
use Rattle.frame_row.specs.FrameRow.{pixels_of}
use Rattle.frame_rows.specs.FrameRows.{Shown, Output, complete}
use Rattle.frame_rows_laws.specs.Gathering.{lines_of, picture_of, frame_size}

-- a line that is sent: what is handed to the judge, and the body
abbrev pub shown_line : Sent → Shown
shown_line s = record { given = line (kind_number s.kind) s.number; body = s.body }

-- the lines of a whole profile 0 frame, with this border setting, that may all be written
pub record FrameSent (b : Borders) (ss : List Sent) : Type 0 where
  pub whole : IsFrame VV5404 b (lines_of (map shown_line ss))
  pub writable : AllWritable VV5404 ss

-- no line of these opens a frame: none is an SOF numbered 0
abbrev pub opens_none : List LineOut → Bool
opens_none [] = true
opens_none (l ∷ ls) = not (opens (kind_number l.kind) l.number) && opens_none ls

-- The picture.

-- a visible line's pixels, and none of any other
abbrev pub sent_pixels : Order → Kind → List ℕ → List ℕ
sent_pixels o BL body = []
sent_pixels o BK body = []
sent_pixels o VL body = pixels_of o body
sent_pixels o SOF body = []
sent_pixels o EOF body = []

-- the row of the line at a place: its pixels; or the line whole, its kind, its place for its number, and its body
abbrev pub sent_row : Keeping → ℕ → Kind → List ℕ → List ℕ
sent_row (VisiblePixels o) place kind body = sent_pixels o kind body
sent_row WholeLines place kind body = (kind_number kind ∷ in_two place) ++ body

-- the rows of lines from a place on, top to bottom in the order sent
abbrev pub sent_from : Keeping → ℕ → List Sent → List ℕ
sent_from k place [] = []
sent_from k place (s ∷ ss) = sent_row k place s.kind s.body ++ sent_from k (suc place) ss

-- the rows of a frame's lines as sent
abbrev pub sent_rows : Keeping → List Sent → List ℕ
sent_rows k ss = sent_from k 0 ss

-- a whole frame is found: complete is said, with its rows
abbrev pub FrameSaid : Keeping → Borders → List Sent → Output → Type 0
FrameSaid k b ss said = said ≡ complete (frame_size k b) (sent_rows k ss)

-- the picture of a frame: complete is said, with its pixels; and their file, the header and then the pixels, is written where there is room for it
pub record FramePictured (o : Order) (b : Borders) (ss : List Sent) (said : Output) : Type 0 where
  pub says : FrameSaid (VisiblePixels o) b ss said
  pub written : (room : ℕ) → length (image_of (picture_of b) (sent_rows (VisiblePixels o) ss)) ≤ room
      → write_of (sent_rows (VisiblePixels o) ss) room
      ≡ used (length (image_of (picture_of b) (sent_rows (VisiblePixels o) ss))) (image_of (picture_of b) (sent_rows (VisiblePixels o) ss))
