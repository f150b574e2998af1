-- What is said of saved settings: what was clipped, why a request is refused; and the messages of a setting.
use Rattle.std.specs.Prelude.{cond, List, [], ◌∷◌, ◌++◌, ℕ, eqb, ltb}
use Rattle.refusal.specs.Refusal.{bad_setting, version_not_held, no_version_left}
use Rattle.text.specs.Text.{ascii}
use Rattle.two_wire.specs.Messages.{message}
use Rattle.two_wire_text.specs.Hex.{hex_text}
use Rattle.exposure.specs.Exposure.{fine_limit, coarse_limit}
use Rattle.saved_setting.specs.declared.SavedSetting.{SavedSetting}
use Rattle.saved_setting.specs.declared.Wanted.{Wanted}
use Rattle.saved_registers.specs.SettingRegisters.{setting_pairs}
use Rattle.saved_lines.specs.SavedLines.{field}

-- What was clipped: `fine 400 is above 360 at 30 a second: 360 saved`.

-- a fine exposure that was clipped
unfoldable pub fine_note : Wanted → List ℕ
fine_note w =
    cond (ltb (fine_limit w.rate) w.fine)
    (field (ascii "fine ") w.fine
    ++ (field (ascii " is above ") (fine_limit w.rate)
    ++ (field (ascii " at ") w.rate ++ (field (ascii " a second: ") (fine_limit w.rate) ++ ascii " saved\n"))))
    []

-- a coarse exposure that was clipped
unfoldable pub coarse_note : Wanted → List ℕ
coarse_note w =
    cond (ltb coarse_limit w.coarse)
    (field (ascii "coarse ") w.coarse ++ (field (ascii " is above ") coarse_limit ++ (field (ascii ": ") coarse_limit ++ ascii " saved\n")))
    []

-- what was clipped
abbrev pub notes : Wanted → List ℕ
notes w = fine_note w ++ coarse_note w

-- Refusals.

-- what a refusal means, to the line's end
unfoldable pub settings_refusal : ℕ → List ℕ
settings_refusal n =
    cond (eqb n bad_setting) (ascii ", gain takes 0, 1, 3 or 7, divisor 0 to 3, and the frame rate is 25 or 30\n")
    (cond (eqb n version_not_held) (ascii ", version not held: `list` shows those that are\n")
    (cond (eqb n no_version_left) (ascii ", no version number is left after 65535: start a new file\n")
    (ascii ", not a list of saved settings; the file is left as it is\n")))

-- a refused request
abbrev pub refused_request : ℕ → List ℕ
refused_request n = field (ascii "REFUSED ") n ++ settings_refusal n

-- The messages of a setting.

-- of pairs of index and value, a line each
abbrev pub message_lines : List ℕ → List ℕ
message_lines [] = []
message_lines (i ∷ []) = []
message_lines (i ∷ v ∷ []) = hex_text (message i v)
message_lines (i ∷ v ∷ j ∷ pairs) = hex_text (message i v) ++ message_lines (j ∷ pairs)

-- of the registers to write
abbrev pub writes_of : SavedSetting → List ℕ
writes_of s = message_lines (setting_pairs s)
