-- The first complete frame of a capture (02, A1, A2 and A13): the capture's nibbles in, piece by piece, and the rows of the frame out.
use Rattle.std.specs.Prelude.{◌≡◌, Bool, true, false, cond, List, [], ◌∷◌, ℕ, ◌-◌, length, replicate}
use Rattle.refusal.specs.Refusal.{bad_state}
use Rattle.profile.specs.declared.Profile.TheVariants.{VV5404}
use Rattle.profile.specs.Profile.{longest}
use Rattle.stream.specs.Answers.{answer_for, buffer_after}
use Rattle.reader.specs.declared.Reader.{Reader}
use Rattle.reader_head.specs.Head.{passes}
use Rattle.reader.specs.Reader.{Took, fresh_reader, feed_of}
use Rattle.frame_row.specs.declared.Keeping.{Keeping}
use Rattle.frame_rows.specs.declared.Gatherer.{Gatherer}
use Rattle.frame_rows.specs.FrameRows.{Output, nothing, complete, refused, output_of, AfterCall, fresh, quiet}
use Rattle.frame_rows_laws.specs.Gathering.{Given, call}
use Rattle.frame_grabber.specs.declared.Grabber.{Grabber}
use Rattle.frame_grabber.specs.declared.Grabbed.{Grabbed}

-- a fresh profile 0 reader, and a fresh gatherer
abbrev pub fresh_grabber : Keeping → Grabber
fresh_grabber k = record { reader = fresh_reader VV5404; gatherer = fresh k }

-- One nibble.

-- each call of the reader is lent a blank line buffer, as long as the longest body
unfoldable pub blank : List ℕ
blank = replicate longest 0

-- what the gatherer is given then: the reader's answer, and the line buffer as the call left it
abbrev pub given : Took → Given
given t = record { answer = answer_for t.outcome; held = buffer_after t.outcome blank }

-- something is said: a frame is complete, or something is refused
abbrev pub is_said : Output → Bool
is_said nothing = false
is_said (complete n rows) = true
is_said (refused n) = true

-- The nibbles of a piece.

-- the reader; the gatherer with what it says and the rows' buffer; and the nibbles that are left
pub record Sought : Type 0 where
  pub reader : Reader
  pub outcome : AfterCall
  pub left : List ℕ

-- where a search stands
abbrev pub sought : Reader → AfterCall → List ℕ → Sought
sought r x w = record { reader = r; outcome = x; left = w }

-- the nibbles are fed one by one, and each answer is handed to the gatherer, up to the first time that something is said
abbrev pub seek : Reader → Gatherer → List ℕ → List ℕ → Sought
seek r g rows [] = sought r (quiet g rows) []
seek r g rows (n ∷ w) =
    let t : Took = feed_of r n longest in
    let x : AfterCall = call (quiet g rows) (given t) in
    cond (is_said x.output) (sought t.reader x w) (seek t.reader x.gatherer x.buffer w)

-- after a call: the grabber, how many nibbles were taken, what is said, and the rows' buffer
pub record After : Type 0 where
  pub grabber : Grabber
  pub taken : ℕ
  pub output : Output
  pub buffer : List ℕ

-- of so many nibbles, those are taken that are not left
abbrev pub leaving : ℕ → Sought → After
leaving n s =
    record {
      grabber = record { reader = s.reader; gatherer = s.outcome.gatherer };
      taken = n - length s.left;
      output = s.outcome.output;
      buffer = s.outcome.buffer;
    }

-- a grabber whose reader fails its own test takes nothing
abbrev pub failing : Grabber → List ℕ → After
failing s rows = record { grabber = s; taken = 0; output = refused bad_state; buffer = rows }

-- a piece: 11 where the reader fails its own test, and then nothing is taken; or up to the first time that something is said
unfoldable pub grab_of : Grabber → List ℕ → List ℕ → After
grab_of s w rows = cond (passes s.reader.head) (leaving (length w) (seek s.reader s.gatherer rows w)) (failing s rows)

-- a call that answers, and leaves the rows' buffer, so
pub record Grabs (a : After) (answer : Grabbed) (after : List ℕ) : Type 0 where
  pub next : answer.grabber ≡ a.grabber
  pub counts : answer.taken ≡ a.taken
  pub says : output_of answer.progress after ≡ a.output
  pub leaves : after ≡ a.buffer
