-- A message read against a sensor's state (02, A6): the sensor after it, or a refusal, after which nothing has changed.
use Rattle.std.specs.Prelude.{◌≡◌, Bool, true, false, not, cond, List, [], ◌∷◌, ℕ, zero, suc, ◌+◌, ◌%◌, eqb, leb, get_or, replicate, Err, Ok, Result}
use Rattle.refusal.specs.Refusal.{bad_state, short_message, wrong_address, wrong_index, wrong_data, past_last_register}
use Rattle.refusal.specs.declared.Refusal.{Refusal}
use Rattle.two_wire.specs.declared.Sensor.{Sensor}
use Rattle.two_wire.specs.declared.Seen.{Seen}
use Rattle.message_data.specs.Registers.{register_count, last_index, next, runs_past, reached, left, stored, some_differs}

-- registers, current index and increment flag, all 0 when fresh
abbrev pub fresh : Sensor
fresh = record { registers = replicate register_count 0; index = 0; increment = false }

-- the first byte of a write (hex 20) and of a read
abbrev pub write_address : ℕ
write_address = 32

-- the first byte of a read
abbrev pub read_address : ℕ
read_address = 33

-- the second byte: the index in its low seven bits, the increment flag in its top bit
abbrev pub increment_bit : ℕ
increment_bit = 128

-- the second byte: the index, with the bit of increment
abbrev pub index_byte : Bool → ℕ → ℕ
index_byte increment i = cond increment (increment_bit + i) i

-- the index in a second byte
abbrev pub index_in : ℕ → ℕ
index_in second = second % increment_bit

-- whether a second byte asks for increment
abbrev pub increment_in : ℕ → Bool
increment_in second = leb increment_bit second

-- what a message does: the sensor after it, or a refusal with its number
pub data Acceptance : Type 0 where
  accepted : Sensor → Acceptance
  refused : ℕ → Acceptance

-- the paper's number and values of each case of the program's answer, which comes beside the sensor
abbrev pub acceptance_of : Result Unit Refusal → Sensor → Acceptance
acceptance_of (Ok u) s = accepted s
acceptance_of (Err r) s = refused r.0

-- the sensor afterwards: a refused message changes nothing
abbrev pub sensor_after : Acceptance → Sensor → Sensor
sensor_after (accepted s) before = s
sensor_after (refused n) before = before

-- what a call says of an outcome
abbrev pub AnswersMessage : Acceptance → Sensor → Seen → Type 0
AnswersMessage o before seen = (acceptance_of seen.answer seen.sensor ≡ o) × (seen.sensor ≡ sensor_after o before)

-- a refusal where the test passes
unfoldable pub refuse_if : Bool → ℕ → Acceptance → Acceptance
refuse_if true n o = refused n
refuse_if false n o = o

-- a write of data from an index on: 28, or the sensor with the data stored
unfoldable pub write_data : Sensor → Bool → ℕ → List ℕ → Acceptance
write_data s increment i bytes =
    refuse_if (runs_past increment i bytes) past_last_register
    (accepted
    (record { registers = stored increment i bytes s.registers; index = left (reached increment i bytes); increment = increment }))

-- a read of data at the current index: 27, 28, or the sensor with its index moved
unfoldable pub read_data : Sensor → List ℕ → Acceptance
read_data s bytes =
    refuse_if (some_differs s.increment s.index bytes s.registers) wrong_data
    (refuse_if (runs_past s.increment s.index bytes) past_last_register
    (accepted
    (record { registers = s.registers; index = left (reached s.increment s.index bytes); increment = s.increment })))

-- a read: 26, or by its data
unfoldable pub read_back : Sensor → ℕ → List ℕ → Acceptance
read_back s second bytes = refuse_if (not (eqb second (index_byte s.increment s.index))) wrong_index (read_data s bytes)

-- by the address: a write, a read, or 25
unfoldable pub addressed : Sensor → ℕ → ℕ → List ℕ → Acceptance
addressed s address second bytes =
    cond (eqb address write_address) (write_data s (increment_in second) (index_in second) bytes)
    (cond (eqb address read_address) (read_back s second bytes) (refused wrong_address))

-- by the length: 24, or address, second byte and data
abbrev pub laid_out : Sensor → List ℕ → Acceptance
laid_out s [] = refused short_message
laid_out s (address ∷ []) = refused short_message
laid_out s (address ∷ second ∷ bytes) = addressed s address second bytes

-- what a message, the list of its acknowledged bytes, does to a sensor
unfoldable pub message_on : Sensor → List ℕ → Acceptance
message_on s message = refuse_if (not (leb s.index last_index)) bad_state (laid_out s message)

-- the next message after an outcome: none follows a refusal
abbrev pub next_message : Acceptance → List ℕ → Acceptance
next_message (accepted s) message = message_on s message
next_message (refused n) message = refused n

-- messages one after another
abbrev pub messages_on : List (List ℕ) → Acceptance → Acceptance
messages_on [] o = o
messages_on (m ∷ ms) o = messages_on ms (next_message o m)

-- What a sensor sends.

-- the contents of registers from an index on, n bytes of them
abbrev pub contents : Bool → ℕ → List ℕ → ℕ → List ℕ
contents increment i registers zero = []
contents increment i registers (suc n) = get_or registers i 0 ∷ contents increment (next increment i) registers n

-- a read message of n data bytes made of the state itself
abbrev pub read_message : Sensor → ℕ → List ℕ
read_message s n =
    read_address ∷ index_byte s.increment s.index ∷ contents s.increment s.index s.registers n

-- the index behind n data bytes, as increment says
abbrev pub behind : Sensor → ℕ → ℕ
behind s n = cond s.increment (s.index + n) s.index

-- What it is sent.

-- a value to one register, without increment
abbrev pub message : ℕ → ℕ → List ℕ
message i v = write_address ∷ i ∷ v ∷ []
