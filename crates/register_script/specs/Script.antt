-- A script as a list of characters: where it stands, the text for each line, and the text for the whole.
use Rattle.std.specs.Prelude.{◌≡◌, Bool, true, false, cond, List, [], ◌∷◌, ◌++◌, ℕ, ◌+◌, ◌-◌, eqb, leb, ltb, length, take, get_or}
use Rattle.text.specs.Text.{space, newline}
use Rattle.text.specs.Put.{AtFront}
use Rattle.profile.specs.declared.Profile.{Profile}
use Rattle.two_wire.specs.declared.Sensor.{Sensor}
use Rattle.two_wire.specs.Messages.{fresh}
use Rattle.named_value.specs.Number.{is_blank}
use Rattle.register_script.specs.declared.Script.{Script}
use Rattle.register_script.specs.declared.ScriptFed.{ScriptFed}
use Rattle.register_line.specs.declared.Reply.{Reply}
use Rattle.register_line.specs.Line.{too_long_text, text_of, refused_of, sensor_of, Replies}

-- a sensor and its state, the number of the line, the room for it, and its characters so far
pub record Place : Type 0 where
  pub profile : Profile
  pub sensor : Sensor
  pub number : ℕ
  pub room : ℕ
  pub kept : List ℕ

-- as it is held: the characters at the front of a buffer
abbrev pub place_of : Script → List ℕ → Place
place_of s line = record { profile = s.profile; sensor = s.sensor; number = s.number; room = length line; kept = take s.length line }

-- line 1 of a script for a fresh sensor
abbrev pub start : Profile → Script
start p = record { profile = p; sensor = fresh; number = 1; length = 0 }

-- A line.

-- a line that fills the room is told as too long
unfoldable pub line_text : Place → List ℕ
line_text p =
    cond (leb p.room (length p.kept)) (too_long_text p.number p.room) (text_of p.profile p.sensor p.number p.kept)

-- the line that ends here is refused
unfoldable pub line_refused : Place → Bool
line_refused p = cond (leb p.room (length p.kept)) true (refused_of p.profile p.kept)

-- the sensor after the line that ends here
unfoldable pub line_sensor : Place → Sensor
line_sensor p = cond (leb p.room (length p.kept)) p.sensor (sensor_of p.profile p.sensor p.kept)

-- the number after a line's: one more, and the greatest of 64 bits is held
unfoldable pub line_after : ℕ → ℕ
line_after n = cond (ltb n 0xFFFFFFFFFFFFFFFF) (n + 1) n

-- A character.

-- the characters kept with one more, as far as there is room
abbrev pub appended : ℕ → List ℕ → ℕ → List ℕ
appended room kept c = take room (kept ++ (c ∷ []))

-- with a blank more: a space after a word, and nothing before the first word or after a space
unfoldable pub blank_after : ℕ → List ℕ → List ℕ
blank_after room kept =
    cond (eqb (length kept) 0) kept (cond (eqb (get_or kept (length kept - 1) 0) space) kept (appended room kept space))

-- what is kept of a line with one character more
unfoldable pub kept_after : ℕ → List ℕ → ℕ → List ℕ
kept_after room kept c = cond (is_blank c) (blank_after room kept) (appended room kept c)

-- one character more of a line
abbrev pub on_line : Place → ℕ → Place
on_line p c =
    record { profile = p.profile; sensor = p.sensor; number = p.number; room = p.room; kept = kept_after p.room p.kept c }

-- the line ends
abbrev pub next_line : Place → Place
next_line p = record { profile = p.profile; sensor = line_sensor p; number = line_after p.number; room = p.room; kept = [] }

-- a newline ends the line, and gives its text, and whether it is refused
unfoldable pub place_after : Place → ℕ → Place
place_after p c = cond (eqb c newline) (next_line p) (on_line p c)

-- the text that a character brings: a line's, at its newline
unfoldable pub text_on : Place → ℕ → List ℕ
text_on p c = cond (eqb c newline) (line_text p) []

-- a character ends a line that is refused
unfoldable pub refused_on : Place → ℕ → Bool
refused_on p c = cond (eqb c newline) (line_refused p) false

-- The whole.

-- a line's text, where refused lines are asked for (true) and it is one, or where the others are (false) and it is not
abbrev pub text_where : Bool → Bool → List ℕ → List ℕ
text_where true refused text = cond refused text []
text_where false refused text = cond refused [] text

-- the text for the refused lines of a script, or for the others; its end ends its last line
abbrev pub script_text : Bool → Place → List ℕ → List ℕ
script_text asked p [] = text_where asked (line_refused p) (line_text p)
script_text asked p (c ∷ script) = text_where asked (refused_on p c) (text_on p c) ++ script_text asked (place_after p c) script

-- for a piece of a script that goes on, and where it stands then
abbrev pub piece_text : Bool → Place → List ℕ → List ℕ
piece_text asked p [] = []
piece_text asked p (c ∷ piece) = text_where asked (refused_on p c) (text_on p c) ++ piece_text asked (place_after p c) piece

-- after a piece of a script
abbrev pub after_piece : Place → List ℕ → Place
after_piece p [] = p
after_piece p (c ∷ piece) = after_piece (place_after p c) piece

-- Calls.

-- the reply to a line
abbrev pub RepliesLine : Place → List ℕ → List ℕ → Reply → Type 0
RepliesLine p = Replies (line_sensor p) (line_refused p) (line_text p)

-- what a buffer keeps stands at its front and the rest is as it was: with a character more; with a blank more; with a character of a line more
abbrev pub Appends : ℕ → List ℕ → ℕ → List ℕ → ℕ → Type 0
Appends c line n after r = AtFront (appended (length line) (take n line) c) r line after

-- what a call with a blank leaves in the line buffer
abbrev pub KeepsBlank : List ℕ → ℕ → List ℕ → ℕ → Type 0
KeepsBlank line n after r = AtFront (blank_after (length line) (take n line)) r line after

-- what a call with any character leaves in the line buffer
abbrev pub KeepsCharacter : ℕ → List ℕ → ℕ → List ℕ → ℕ → Type 0
KeepsCharacter c line n after r = AtFront (kept_after (length line) (take n line) c) r line after

-- a character fed: where the script then stands, whether a line is refused, what is kept of a line at the front of its buffer, and the text at
-- the front of the other; the rest of both is as it was
pub record Feeds (s : Script) (c : ℕ) (line out : List ℕ) (r : ScriptFed) (line₁ out₁ : List ℕ) : Type 0 where
  pub moves : place_of r.script line₁ ≡ place_after (place_of s line) c
  pub refuses : r.refused ≡ refused_on (place_of s line) c
  pub keeps : AtFront (place_after (place_of s line) c).kept r.script.length line line₁
  pub tells : AtFront (text_on (place_of s line) c) r.length out out₁
