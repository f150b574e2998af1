-- A setting written as messages is read back from the registers, from any state that is not answered 11.
use Rattle.std.specs.Prelude.{◌≡◌, refl, List, ℕ, ◌+◌, ◌*◌, ◌/◌, ◌%◌, ◌≤◌, length, get_or}
use Rattle.std.proofs.Common.{arith, lit≤}
use Rattle.lent_buffer.specs.Filled.{used}
use Rattle.saved_setting.specs.declared.SavedSetting.{SavedSetting}
use Rattle.two_wire.specs.declared.Sensor.{Sensor}
use Rattle.message_data.specs.Registers.{register_count, last_index, next}
use Rattle.two_wire.specs.RegisterNames.{fine_high, fine_low, coarse_high, coarse_low, gain, clock_divisor}
use Rattle.two_wire.specs.Messages.{Acceptance, accepted, refused, messages_on}
use Rattle.two_wire_write.specs.Writing.{messages, joined, write_of, in_threes}
use Rattle.two_wire_write.specs.WritingLaws.{writes}
use Rattle.two_wire_write.specs.ReadBackLaws.{SetAs, written_read_back}
use Rattle.saved_registers.specs.SettingRegisters.{setting_pairs, HoldsSetting}

-- its messages take 18 bytes
pub setting_written : (s : SavedSetting) (room : ℕ) → 18 ≤ room → write_of (setting_pairs s) room ≡ used 18 (joined (messages (setting_pairs s)))
unfolding setting_pairs
setting_written s room h = writes (setting_pairs s) room refl refl h

holds : (s : SavedSetting) (before : Sensor) (o : Acceptance) → SetAs (setting_pairs s) before o → HoldsSetting s o
unfolding setting_pairs next
holds s before (refused n) set = set
holds s before (accepted after) set =
    let fh : get_or after.registers fine_high 0 ≡ s.fine / 256 = set.1 fine_high (lit≤ tt) (lit≤ tt) in
    let fl : get_or after.registers fine_low 0 ≡ s.fine % 256 = set.1 fine_low (lit≤ tt) (lit≤ tt) in
    let ch : get_or after.registers coarse_high 0 ≡ s.coarse / 256 = set.1 coarse_high (lit≤ tt) (lit≤ tt) in
    let cl : get_or after.registers coarse_low 0 ≡ s.coarse % 256 = set.1 coarse_low (lit≤ tt) (lit≤ tt) in
    let g : get_or after.registers gain 0 ≡ s.gain = set.1 gain (lit≤ tt) (lit≤ tt) in
    let d : get_or after.registers clock_divisor 0 ≡ s.divisor = set.1 clock_divisor (lit≤ tt) (lit≤ tt) in
    let f : 256 * (s.fine / 256) + s.fine % 256 ≡ s.fine = omega arith in
    let c : 256 * (s.coarse / 256) + s.coarse % 256 ≡ s.coarse = omega arith in
    (simp (fh, fl, ch, cl, g, d, f, c), simp (fh, fl, ch, cl, g, d))

-- the messages that are written from a setting, accepted one after another, leave that setting in the registers
pub setting_read_back : (sensor : Sensor) (s : SavedSetting) (bytes : List ℕ) (room n : ℕ) → sensor.index ≤ last_index → length sensor.registers ≡ register_count
    → write_of (setting_pairs s) room ≡ used n bytes → HoldsSetting s (messages_on (in_threes bytes) (accepted sensor))
setting_read_back sensor s bytes room n held count h = holds s sensor (messages_on (in_threes bytes) (accepted sensor)) (written_read_back sensor (setting_pairs s) bytes room n held count h)
