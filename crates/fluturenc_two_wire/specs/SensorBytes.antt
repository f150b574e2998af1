-- A sensor's state as bytes of a lent buffer, in this order: the 128 registers; the current index; 1 where the increment flag is set, else 0.
-- And the calls on it (02, A6).
use Rattle.std.specs.Prelude.{Bool, ◌&&◌, cond, List, ◌∷◌, ◌++◌, ℕ, ◌+◌, eqb, leb, length, get_or, take, drop}
use Rattle.refusal.specs.Refusal.{bad_state, no_room}
use Rattle.exported_call.specs.LentCall.{bit_of, Called}
use Rattle.two_wire.specs.declared.Sensor.{Sensor}
use Rattle.message_data.specs.Registers.{register_count, last_index}
use Rattle.two_wire.specs.Messages.{fresh, Acceptance, accepted, refused, message_on}

-- the places of index and flag, and the bytes of a whole state
abbrev pub index_place : ℕ
index_place = register_count

-- where the flag of increment stands
abbrev pub flag_place : ℕ
flag_place = index_place + 1

-- how many bytes a sensor's state has
abbrev pub sensor_length : ℕ
sensor_length = flag_place + 1

-- a buffer with a sensor's state at its front, and the rest as it was
unfoldable pub with_sensor : Sensor → List ℕ → List ℕ
with_sensor s b = s.registers ++ (s.index ∷ bit_of s.increment ∷ drop sensor_length b)

-- the sensor that bytes hold
unfoldable pub sensor_in : List ℕ → Sensor
sensor_in b = record { registers = take register_count b; index = get_or b index_place 0; increment = eqb (get_or b flag_place 0) 1 }

-- the bytes hold a sensor: they are long enough, the index is a register's, and the flag is a bool's
unfoldable pub holds_sensor : List ℕ → Bool
holds_sensor b = leb sensor_length (length b) && (leb (get_or b index_place 0) last_index && leb (get_or b flag_place 0) 1)

-- 12, or a fresh sensor
unfoldable pub reset_call : List ℕ → Called
reset_call b =
    cond (leb sensor_length (length b)) (record { answer = 0; state = with_sensor fresh b }) (record { answer = no_room; state = b })

-- by what a message does: 0 and the sensor after it, or the refusal, and nothing changes
abbrev pub message_called : Acceptance → List ℕ → Called
message_called (accepted s) b = record { answer = 0; state = with_sensor s b }
message_called (refused n) b = record { answer = n; state = b }

-- 11, or what the message does to the sensor that the bytes hold
unfoldable pub message_call : List ℕ → List ℕ → Called
message_call b message = message_called (cond (holds_sensor b) (message_on (sensor_in b) message) (refused bad_state)) b
