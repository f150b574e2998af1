-- Eight saved settings as lent bytes, and the calls on them (02, A11). A place is 8 bytes: version, fine and coarse exposure, each in two bytes, high
-- byte first; gain code; clock divisor. All 0 is a list of eight unused places.
use Rattle.std.specs.Prelude.{◌≡◌, cond, List, [], ◌∷◌, ◌++◌, ℕ, zero, suc, ◌*◌, eqb, leb, length, get_or, drop}
use Rattle.refusal.specs.Refusal.{no_room}
use Rattle.lent_buffer.specs.Filled.{Output, refused}
use Rattle.exported_call.specs.LentCall.{Called}
use Rattle.line_records.specs.Lines.{from_two, in_two}
use Rattle.two_wire_write.specs.Writing.{write_of}
use Rattle.saved_registers.specs.SettingRegisters.{setting_pairs}
use Rattle.saved_setting.specs.declared.SavedSetting.{SavedSetting}
use Rattle.saved_setting.specs.declared.Wanted.{Wanted}
use Rattle.saved_setting.specs.SavedSettings as reply
use Rattle.saved_setting.specs.SavedSettings.{Reply, setting_places, ListReply}

-- the bytes of a place, and of a list
abbrev pub place_size : ℕ
place_size = 8

-- how many bytes a list has
abbrev pub list_size : ℕ
list_size = setting_places * place_size

-- Settings as bytes.

-- the bytes of one place: version, fine, coarse, gain, divisor
abbrev pub place_bytes : SavedSetting → List ℕ
place_bytes s = in_two s.version ++ (in_two s.fine ++ (in_two s.coarse ++ (s.gain ∷ s.divisor ∷ [])))

-- the bytes of a list
abbrev pub list_bytes : List SavedSetting → List ℕ
list_bytes [] = []
list_bytes (s ∷ list) = place_bytes s ++ list_bytes list

-- Bytes as settings.

-- the setting that some bytes start with
unfoldable pub front_setting : List ℕ → SavedSetting
front_setting b =
    record {
      version = from_two (get_or b 0 0) (get_or b 1 0);
      fine = from_two (get_or b 2 0) (get_or b 3 0);
      coarse = from_two (get_or b 4 0) (get_or b 5 0);
      gain = get_or b 6 0;
      divisor = get_or b 7 0;
    }

-- the first n settings of some bytes
abbrev pub first_settings : ℕ → List ℕ → List SavedSetting
first_settings zero b = []
first_settings (suc n) b = front_setting b ∷ first_settings n (drop place_size b)

-- the eight settings of a list; bytes of another length hold none
unfoldable pub list_in : List ℕ → List SavedSetting
list_in b = cond (eqb (length b) list_size) (first_settings setting_places b) []

-- The calls.

-- a wanted setting of a call's numbers
abbrev pub wanted_of : ℕ → ℕ → ℕ → ℕ → ℕ → Wanted
wanted_of fine coarse gain divisor rate = record { fine = fine; coarse = coarse; gain = gain; divisor = divisor; rate = rate }

-- Saving, and going back: 0 or the refusal; the new version, 0 where nothing is saved; the list.

-- the answer's number: 0, or the refusal
abbrev pub saved_number : Reply ℕ → ℕ
saved_number (reply.yields v) = 0
saved_number (reply.refused n) = n

-- the version that was saved, 0 with a refusal
abbrev pub saved_version : Reply ℕ → ℕ
saved_version (reply.yields v) = v
saved_version (reply.refused n) = 0

-- the list afterwards: a refusal leaves the bytes as they were
abbrev pub bytes_after : Reply ℕ → List SavedSetting → List ℕ → List ℕ
bytes_after (reply.yields v) list before = list_bytes list
bytes_after (reply.refused n) list before = before

-- what a saving call gives: answer, version, and the list's bytes as it leaves them
pub record SaveGives (said : ListReply) (answer version : ℕ) (before after : List ℕ) : Type 0 where
  pub says : answer ≡ saved_number said.reply
  pub gives : version ≡ saved_version said.reply
  pub leaves : after ≡ bytes_after said.reply said.list before

-- Finding: the setting's bytes at the front of what is lent for them, or 12, and the refusal where nothing is found.
abbrev pub found_call : Reply SavedSetting → List ℕ → Called
found_call (reply.yields s) b =
    cond (leb place_size (length b)) (record { answer = 0; state = place_bytes s ++ drop place_size b }) (record { answer = no_room; state = b })
found_call (reply.refused n) b = record { answer = n; state = b }

-- The messages of what is found, of the room.
abbrev pub messages_of : Reply SavedSetting → ℕ → Output
messages_of (reply.yields s) room = write_of (setting_pairs s) room
messages_of (reply.refused n) room = refused n
