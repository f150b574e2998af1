-- A lent buffer that a call fills from its front, or refuses to (01, 'How tight the statements are').
use Rattle.std.specs.Prelude.{◌≡◌, Bool, true, false, List, ◌++◌, ℕ, leb, length, take, drop, Err, Ok, Result}
use Rattle.refusal.specs.Refusal.{no_room}
use Rattle.refusal.specs.declared.Refusal.{Refusal}

-- what a call says: the length used and the bytes there, or a refusal with its number
pub data Output : Type 0 where
  used : ℕ → List ℕ → Output
  refused : ℕ → Output

-- the paper's number and values of each case of the program's answer: the bytes are the front of the buffer as it is left
abbrev pub output_of : Result ℕ Refusal → List ℕ → Output
output_of (Ok n) buffer = used n (take n buffer)
output_of (Err r) buffer = refused r.0

-- the program's answer that says this
abbrev pub answer_for : Output → Result ℕ Refusal
answer_for (used n bytes) = Ok n
answer_for (refused n) = Err (record { 0 = n })

-- the buffer afterwards: the bytes at its front, and the room beyond them as it was; or nothing written
abbrev pub buffer_after : Output → List ℕ → List ℕ
buffer_after (used n bytes) buffer = bytes ++ drop n buffer
buffer_after (refused n) buffer = buffer

-- a call that answers, and leaves its buffer, as the output says
pub record Gives (output : Output) (answer : Result ℕ Refusal) (before after : List ℕ) : Type 0 where
  pub says : output_of answer after ≡ output
  pub leaves : after ≡ buffer_after output before

-- a refusal where the test fails
unfoldable pub require : Bool → ℕ → Output → Output
require true n o = o
require false n o = refused n

-- 12 where the room is too short, or the bytes
abbrev pub fitted : List ℕ → ℕ → Output
fitted bytes room = require (leb (length bytes) room) no_room (used (length bytes) bytes)
