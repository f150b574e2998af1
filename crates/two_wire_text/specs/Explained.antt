-- What a message's line gives: its text, and the sensor's state after it.
use Rattle.std.specs.Prelude.{◌≡◌, cond, List, ℕ, ◌/◌, leb, length}
use Rattle.refusal.specs.Refusal.{no_room}
use Rattle.text.specs.Put.{Puts}
use Rattle.two_wire.specs.declared.Sensor.{Sensor}
use Rattle.two_wire.specs.Messages.{Acceptance, accepted, refused, sensor_after, message_on}
use Rattle.two_wire_words.specs.Words.{accepted_text, refused_text}
use Rattle.two_wire_text.specs.declared.MessageTold.{MessageTold}
use Rattle.two_wire_text.specs.Hex.{bytes_of}

-- an accepted message, and one that is refused
abbrev pub acceptance_text : Acceptance → List ℕ → List ℕ
acceptance_text (accepted s) bytes = accepted_text bytes
acceptance_text (refused n) bytes = refused_text n

-- the bytes that a message may have here
abbrev pub longest_message : ℕ
longest_message = 256

-- a line of more than those is refused with 12; another is read
unfoldable pub message_text : Sensor → List ℕ → List ℕ
message_text s line = cond (leb longest_message (length line / 3)) (refused_text no_room) (acceptance_text (message_on s (bytes_of line)) (bytes_of line))

-- the sensor after a message's line
unfoldable pub message_sensor : Sensor → List ℕ → Sensor
message_sensor s line = cond (leb longest_message (length line / 3)) s (sensor_after (message_on s (bytes_of line)) s)

-- what a call tells: the state after, and a text, put at the front of a buffer as far as it has room
abbrev pub TellsIn : Sensor → List ℕ → List ℕ → List ℕ → MessageTold → Type 0
TellsIn s text before after told = (told.sensor ≡ s) × Puts before 0 text told.length after

-- of a message with an outcome
abbrev pub TellsOutcome : Acceptance → Sensor → List ℕ → List ℕ → List ℕ → MessageTold → Type 0
TellsOutcome o s bytes = TellsIn (sensor_after o s) (acceptance_text o bytes)
