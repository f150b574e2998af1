-- Laws of a sensor's state in bytes: it is read back as it was stored; a reset leaves a fresh sensor, and each message does to the bytes what
-- it does to the sensor. So the messages written from pairs, taken a call each, set the registers listed.
use Rattle.std.specs.Prelude.{◌≡◌, refl, true, false, leb, take}
use Rattle.std.proofs.Common.{sym, subst, ◌∙◌, true≢false, arith, lit≤, length-append}
use Rattle.std.proofs.Math.Path.{ap}
use mathlib.Core.List.{List, [], ◌∷◌, ◌++◌}
use Prim.Native.Nat.{ℕ, ◌+◌, ◌≤◌}
use borrow.Author.Tests.{le-leb, leb-true}
use Rattle.std.proofs.Math.ListN.{length, get_or, drop, length-drop}
use Rattle.std.proofs.lemmas.List.{length-replicate}
use Rattle.std.proofs.Math.Seq.{take_at, get_or_at, get_or-append-add}
use Rattle.bits.specs.Every.{and_left, and_both}
use Rattle.lent_buffer.specs.Filled.{used}
use Rattle.exported_call.specs.LentCall.{bit_of, Called}
use Rattle.exported_call.specs.LentCallLaws.{bit_back, bit_tag}
use Rattle.two_wire.specs.declared.Sensor.{Sensor}
use Rattle.message_data.specs.Registers.{register_count, last_index}
use Rattle.two_wire.specs.Messages.{fresh, Acceptance, accepted, refused, sensor_after, message_on, messages_on}
use Rattle.two_wire_write.specs.Writing.{write_of, in_threes}
use Rattle.two_wire.specs.TwoWireLaws.{Kept, message_keeps}
use Rattle.two_wire_write.specs.ReadBackLaws.{SetAs, written_read_back}
use Rattle.fluturenc_two_wire.specs.SensorBytes.{index_place, flag_place, sensor_length, with_sensor, sensor_in, holds_sensor, reset_call, message_called, message_call}

pub holds_length : (b : List ℕ) → holds_sensor b ≡ true → sensor_length ≤ length b
unfolding holds_sensor
holds_length b h = leb-true sensor_length (length b) (and_left _ _ h)

-- A sensor that calls reach: 128 registers, and the index of one.

-- a sensor as calls leave one
pub record WholeSensor (s : Sensor) : Type 0 where
  pub full : length s.registers ≡ register_count
  pub index : s.index ≤ last_index

fresh_whole : WholeSensor fresh
fresh_whole = record { full = length-replicate {A = ℕ} register_count 0; index = lit≤ tt }

-- A stored sensor is read back.

module _ (s : Sensor) (b : List ℕ) (whole : WholeSensor s) where
  registers_back : take register_count (with_sensor s b) ≡ s.registers
  unfolding with_sensor
  registers_back = take_at s.registers _ register_count whole.full

  index_back : get_or (with_sensor s b) index_place 0 ≡ s.index
  unfolding with_sensor
  index_back = get_or_at s.registers s.index _ 0 register_count whole.full

  flag_back : get_or (with_sensor s b) flag_place 0 ≡ bit_of s.increment
  unfolding with_sensor
  flag_back =
      let bytes : List ℕ = s.index ∷ bit_of s.increment ∷ drop sensor_length b in
      let e : flag_place ≡ length s.registers + 1 = omega (arith, whole.full) in
      ap (λ (k : ℕ). get_or (s.registers ++ bytes) k 0) e ∙ get_or-append-add s.registers bytes 1 0

  pub sensor_back : sensor_in (with_sensor s b) ≡ s
  unfolding sensor_in
  sensor_back = simp (registers_back, index_back, flag_back, bit_back s.increment)

  module _ (room : sensor_length ≤ length b) where
    pub with_length : length (with_sensor s b) ≡ length b
    unfolding with_sensor
    with_length = simp (length-append, whole.full) (omega (arith, length-drop sensor_length b))

    pub sensor_held : holds_sensor (with_sensor s b) ≡ true
    unfolding holds_sensor
    sensor_held =
        and_both (leb sensor_length (length (with_sensor s b))) _ (le-leb sensor_length (length (with_sensor s b)) (omega (arith, with_length)))
        (and_both (leb (get_or (with_sensor s b) index_place 0) last_index) _ (simp (index_back, le-leb _ _ whole.index)) (simp (flag_back, bit_tag s.increment)))

-- Calls on bytes that hold a sensor.

-- bytes that hold a sensor
pub record HoldsSensor (b : List ℕ) (s : Sensor) : Type 0 where
  pub whole : WholeSensor s
  pub room : sensor_length ≤ length b
  pub held : holds_sensor b ≡ true
  pub read : sensor_in b ≡ s

stored_held : (s : Sensor) (b : List ℕ) → WholeSensor s → sensor_length ≤ length b → HoldsSensor (with_sensor s b) s
stored_held s b w h =
    record { whole = w; room = omega (arith, with_length s b w h); held = sensor_held s b w h; read = sensor_back s b w }

-- a reset leaves a fresh sensor
pub resets : (b : List ℕ) → sensor_length ≤ length b → ((reset_call b).answer ≡ 0) × HoldsSensor (reset_call b).state fresh
unfolding reset_call
resets b h = simp (le-leb sensor_length (length b) h) (refl, stored_held fresh b fresh_whole h)

called_held : (o : Acceptance) (b : List ℕ) (s : Sensor) → Kept register_count o → HoldsSensor b s
    → HoldsSensor (message_called o b).state (sensor_after o s)
called_held (accepted t) b s k h = stored_held t b (record { full = k.1; index = k.0 }) h.room
called_held (refused n) b s k h = h

pub message_call_lem : (b message : List ℕ) (s : Sensor) → holds_sensor b ≡ true → sensor_in b ≡ s
    → message_call b message ≡ message_called (message_on s message) b
unfolding message_call
message_call_lem b message s held read = simp held (ap (λ (x : Sensor). message_called (message_on x message) b) read)

-- a message is answered, and leaves the bytes, as the sensor that they hold has it
pub message_taken : (b message : List ℕ) (s : Sensor) → HoldsSensor b s
    → (message_call b message ≡ message_called (message_on s message) b)
    × HoldsSensor (message_call b message).state (sensor_after (message_on s message) s)
message_taken b message s h =
    let e = message_call_lem b message s h.held h.read in
    let k = subst (λ (n : ℕ). Kept n (message_on s message)) h.whole.full (message_keeps s message) in
    (e, subst (λ (c : Called). HoldsSensor c.state (sensor_after (message_on s message) s)) (sym e) (called_held (message_on s message) b s k h))

-- Messages one after another, a call each.

-- the bytes after them
abbrev pub calls_on : List (List ℕ) → List ℕ → List ℕ
calls_on [] b = b
calls_on (m ∷ ms) b = calls_on ms (message_call b m).state

refused_stays : (ms : List (List ℕ)) (n : ℕ) → messages_on ms (refused n) ≡ refused n
refused_stays [] n = refl
refused_stays (m ∷ ms) n = refused_stays ms n

-- where all are accepted, the bytes hold the sensor after them
calls_held : (ms : List (List ℕ)) (b : List ℕ) (s t : Sensor) → HoldsSensor b s → messages_on ms (accepted s) ≡ accepted t → HoldsSensor (calls_on ms b) t
calls_held [] b s t h e =
    let same : s ≡ t = cc in
    subst (HoldsSensor b) same h
calls_held (m ∷ ms) b s t h e =
    go (message_on s m) (message_taken b m s h).1 (λ x. calls_held ms (message_call b m).state x t) e
  where
    go : (o : Acceptance) → HoldsSensor (message_call b m).state (sensor_after o s)
        → ((x : Sensor) → HoldsSensor (message_call b m).state x → messages_on ms (accepted x) ≡ accepted t → HoldsSensor (calls_on ms (message_call b m).state) t)
        → messages_on ms o ≡ accepted t → HoldsSensor (calls_on ms (message_call b m).state) t
    go (accepted x) g rest f = rest x g f
    go (refused n) g rest f =
        let clash : refused n ≡ accepted t = sym (refused_stays ms n) ∙ f in
        let none : true ≡ false = cc in
        absurd (true≢false none)

-- the bytes hold a sensor with each listed register at its last value, and the others as they were
pub record SetIn (pairs : List ℕ) (before : Sensor) (b : List ℕ) : Type 0 where
  pub after : Sensor
  pub held : HoldsSensor b after
  pub set : SetAs pairs before (accepted after)

-- what is written from pairs, taken a call each
pub pairs_set : (b : List ℕ) (s : Sensor) (pairs bytes : List ℕ) (room n : ℕ) → HoldsSensor b s → write_of pairs room ≡ used n bytes
    → SetIn pairs s (calls_on (in_threes bytes) b)
pairs_set b s pairs bytes room n h w =
    go (messages_on (in_threes bytes) (accepted s)) (written_read_back s pairs bytes room n h.whole.index h.whole.full w) refl
  where
    go : (o : Acceptance) → SetAs pairs s o → messages_on (in_threes bytes) (accepted s) ≡ o → SetIn pairs s (calls_on (in_threes bytes) b)
    go (accepted t) k e = record { after = t; held = calls_held (in_threes bytes) b s t h e; set = k }
    go (refused m) k e = absurd k
