-- A saved setting as the registers of a VV5404 or VV6404 hold it (004, Table 8).
use Rattle.std.specs.Prelude.{◌≡◌, true, List, [], ◌∷◌, ℕ, ◌+◌, ◌*◌, ◌/◌, ◌%◌, get_or}
use Rattle.saved_setting.specs.declared.SavedSetting.{SavedSetting}
use Rattle.two_wire.specs.RegisterNames.{fine_high, fine_low, coarse_high, coarse_low, gain, clock_divisor}
use Rattle.two_wire.specs.Messages.{Acceptance, accepted, refused, contents}

-- index and value of each register to write
unfoldable pub setting_pairs : SavedSetting → List ℕ
setting_pairs s =
    fine_high ∷ s.fine / 256 ∷ fine_low ∷ s.fine % 256 ∷ coarse_high ∷ s.coarse / 256 ∷ coarse_low ∷ s.coarse % 256
    ∷ gain ∷ s.gain ∷ clock_divisor ∷ s.divisor ∷ []

-- the setting that registers hold; its version is not among them
abbrev pub setting_in : ℕ → List ℕ → SavedSetting
setting_in version registers =
    record {
      version = version;
      fine = 256 * get_or registers fine_high 0 + get_or registers fine_low 0;
      coarse = 256 * get_or registers coarse_high 0 + get_or registers coarse_low 0;
      gain = get_or registers gain 0;
      divisor = get_or registers clock_divisor 0;
    }

-- the bytes of a setting, in the order of the registers
abbrev pub setting_bytes : SavedSetting → List ℕ
setting_bytes s = s.fine / 256 ∷ s.fine % 256 ∷ s.coarse / 256 ∷ s.coarse % 256 ∷ s.gain ∷ s.divisor ∷ []

-- accepted, with a setting in the registers: it is what they hold, and what the sensor sends to a read of them, one after another
abbrev pub HoldsSetting : SavedSetting → Acceptance → Type 0
HoldsSetting s (refused n) = ⊥
HoldsSetting s (accepted sensor) =
    (setting_in s.version sensor.registers ≡ s) × (contents true fine_high sensor.registers 6 ≡ setting_bytes s)
