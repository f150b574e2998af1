-- A capture's nibbles handed over in pieces, and the picture of its first complete frame.
use Rattle.std.specs.Prelude.{◌≡◌, cond, List, [], ◌∷◌, ◌++◌, ℕ, ◌+◌, ◌≤◌, length, take}
use Rattle.profile.specs.declared.Profile.TheVariants.{VV5404}
use Rattle.profile.specs.Profile.{longest}
use Rattle.lent_buffer.specs.Filled.{used}
use Rattle.reader.specs.declared.Reader.{Reader}
use Rattle.reader.specs.Reader.{fresh_reader, feed_of}
use Rattle.picture_file.specs.PictureFile.{image_of, write_of}
use Rattle.frame_row.specs.declared.Order.{Order}
use Rattle.frame_row.specs.declared.Keeping.{Keeping}
use Rattle.frame_row.specs.declared.Keeping.TheVariants.{VisiblePixels}
use Rattle.frame_rows.specs.declared.Gatherer.{Gatherer}
use Rattle.frame_rows.specs.FrameRows.{Shown, nothing, quiet}
use Rattle.frame_rows_laws.specs.Gathering.{Given, calls, start, taken, picture_of, CompletesRows, Laid, Every}
use Rattle.frame_grabber.specs.declared.Grabber.{Grabber}
use Rattle.frame_grabber.specs.FrameGrabber.{given, is_said, seek, After, grab_of}

-- Pieces.

-- end to end
abbrev pub joined : List (List ℕ) → List ℕ
joined [] = []
joined (p ∷ ps) = p ++ joined ps

-- after so many nibbles more
abbrev pub with_more : ℕ → After → After
with_more n a = record { grabber = a.grabber; taken = n + a.taken; output = a.output; buffer = a.buffer }

-- call after call, up to the first that says something; the nibbles taken are counted over all of them
abbrev pub grab_pieces : Grabber → List ℕ → List (List ℕ) → After
grab_pieces s rows [] = record { grabber = s; taken = 0; output = nothing; buffer = rows }
grab_pieces s rows (p ∷ ps) =
    let a : After = grab_of s p rows in
    cond (is_said a.output) a (with_more a.taken (grab_pieces a.grabber a.buffer ps))

-- Every answer.

-- nibbles fed one by one, whatever is answered
abbrev pub fed_all : Reader → List ℕ → Reader
fed_all r [] = r
fed_all r (n ∷ w) = fed_all (feed_of r n longest).reader w

-- what the gatherer is given of them
abbrev pub givens : Reader → List ℕ → List Given
givens r [] = []
givens r (n ∷ w) = given (feed_of r n longest) ∷ givens (feed_of r n longest).reader w

-- what is sought, as the gatherer's calls: the nibbles taken, and those left; what is said with the last one taken, and the reader then
pub record Seeks (r : Reader) (g : Gatherer) (held w : List ℕ) : Type 0 where
  pub up_to : List ℕ
  pub splits : w ≡ up_to ++ (seek r g held w).left
  pub outcome_is : (seek r g held w).outcome ≡ calls (quiet g held) (givens r up_to)
  pub reader_is : (seek r g held w).reader ≡ fed_all r up_to

-- after a call: the reader has taken every nibble that counts as taken, and each answer was handed to the gatherer
pub record StandsFed (s : Grabber) (w rows : List ℕ) (a : After) : Type 0 where
  pub reader_is : a.grabber.reader ≡ fed_all s.reader (take a.taken w)
  pub gatherer_is : a.grabber.gatherer ≡ (calls (quiet s.gatherer rows) (givens s.reader (take a.taken w))).gatherer
  pub rows_are : a.buffer ≡ (calls (quiet s.gatherer rows) (givens s.reader (take a.taken w))).buffer

-- The picture.

-- the lines that nibbles of a capture hand over, from a fresh reader and a fresh gatherer on
abbrev pub lines_in : Keeping → List ℕ → List ℕ → List Shown
lines_in k rows w = taken (start k rows) (givens (fresh_reader VV5404) w)

-- the rows of a capture's first complete frame: the nibbles up to its last line's answer; their lines, which end in those of a whole frame, its
-- rows being these; and each visible body laid out as 01 says
pub record FrameFound (k : Keeping) (rows capture : List ℕ) (n : ℕ) (shown : List ℕ) : Type 0 where
  pub up_to : List ℕ
  pub left : List ℕ
  pub splits : capture ≡ up_to ++ left
  pub completes : CompletesRows k (lines_in k rows up_to) n shown
  pub laid : Every Laid (lines_in k rows up_to)

-- as a picture: its file is written where there is room for it
pub record Pictured (o : Order) (rows capture : List ℕ) (n : ℕ) (shown : List ℕ) : Type 0 where
  pub found : FrameFound (VisiblePixels o) rows capture n shown
  pub written : (room : ℕ) → length (image_of (picture_of found.completes.borders) shown) ≤ room
      → write_of shown room
      ≡ used (length (image_of (picture_of found.completes.borders) shown)) (image_of (picture_of found.completes.borders) shown)
