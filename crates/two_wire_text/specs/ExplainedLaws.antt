-- 64 bytes have room for the text of every message's line.
use Rattle.std.specs.Prelude.{◌≡◌, refl, Bool, true, false, cond, List, [], ◌∷◌, ℕ, ◌/◌, ◌≤◌, leb, length}
use Rattle.std.proofs.Common.{arith, leb-false, length-append}
use Rattle.text.specs.TextLaws.{three_digits_lem}
use Rattle.refusal.specs.Refusal.{no_room}
use Rattle.two_wire.specs.declared.Sensor.{Sensor}
use Rattle.two_wire.specs.Messages.{index_in, Acceptance, accepted, refused, message_on}
use Rattle.two_wire_words.specs.Words.{accepted_text, refused_text}
use Rattle.two_wire_words.specs.WordsLaws.{direction_short, refused_short}
use Rattle.two_wire_text.specs.Hex.{bytes_of}
use Rattle.two_wire_text.specs.HexLaws.{bytes_length}
use Rattle.two_wire_text.specs.Explained.{longest_message, acceptance_text, message_text}

accepted_room : (bytes : List ℕ) → length bytes ≤ longest_message → length (accepted_text bytes) ≤ 64
unfolding accepted_text
accepted_room [] h = omega arith
accepted_room (a ∷ []) h = omega arith
accepted_room (a ∷ b ∷ bytes) h =
    simp (length-append)
    (omega (arith, direction_short a, three_digits_lem (index_in b) (omega arith), three_digits_lem (length bytes) (omega arith)))

acceptance_short : (o : Acceptance) (bytes : List ℕ) → length bytes ≤ longest_message → length (acceptance_text o bytes) ≤ 64
acceptance_short (accepted s) bytes h = accepted_room bytes h
acceptance_short (refused n) bytes h = refused_short n

pub message_short : (s : Sensor) (line : List ℕ) → length (message_text s line) ≤ 64
unfolding message_text
message_short s line = either (leb longest_message (length line / 3)) refl
  where
    either : (t : Bool) → leb longest_message (length line / 3) ≡ t → length (cond t (refused_text no_room) (acceptance_text (message_on s (bytes_of line)) (bytes_of line))) ≤ 64
    either true e = refused_short no_room
    either false e = acceptance_short (message_on s (bytes_of line)) (bytes_of line) (omega (arith, leb-false longest_message (length line / 3) e, bytes_length line))
