-- What it is for the text of a list of saved settings to be read back as that list. Definitions only.
use Rattle.std.specs.Prelude.{◌≡◌, true, cond, List, [], ◌∷◌, ◌++◌, map, ℕ, ◌≤◌, eqb}
use Rattle.text.specs.Text.{newline}
use Rattle.saved_setting.specs.declared.SavedSetting.{SavedSetting}
use Rattle.saved_setting.specs.SavedSettings.{is_unused}
use Rattle.saved_laws.specs.Histories.{used_of}
use Rattle.saved_lines.specs.SavedLines.{unused, settings_text}
use Rattle.saved_text.specs.SettingsText.{carriage_return, is_like, restored}

-- a setting's numbers, as its fields can hold them
pub record InFields (s : SavedSetting) : Type 0 where
  pub version : s.version ≤ 65535
  pub fine : s.fine ≤ 65535
  pub coarse : s.coarse ≤ 65535
  pub gain : s.gain ≤ 255
  pub divisor : s.divisor ≤ 255

-- so in each place
abbrev pub AllInFields : List SavedSetting → Type 0
AllInFields [] = Unit {0}
AllInFields (s ∷ list) = InFields s × AllInFields list

-- a place as it is read back: an unused one holds zeros then
unfoldable pub place_restored : SavedSetting → SavedSetting
place_restored s = cond (is_unused s) unused s

-- a list as its text gives it back
abbrev pub list_restored : List SavedSetting → List SavedSetting
list_restored list = map place_restored list

-- each unused place holds zeros already
abbrev pub ZerosUnused : List SavedSetting → Type 0
ZerosUnused [] = Unit {0}
ZerosUnused (s ∷ list) = (is_unused s ≡ true → s ≡ unused) × ZerosUnused list

-- a text with a carriage return before each newline
abbrev pub with_returns : List ℕ → List ℕ
with_returns [] = []
with_returns (c ∷ text) = cond (eqb c newline) (carriage_return ∷ c ∷ with_returns text) (c ∷ with_returns text)

-- a text is read as that of a list, which is the one given but for what its unused places hold
abbrev pub RestoredAs : List SavedSetting → List ℕ → Type 0
RestoredAs list text = restored text ≡ record { list = list_restored list; valid = true }

-- a list's text is read back: as it is written, with carriage returns, without its last newline, and in any form that is like it, but no other text
-- is read so; the used places are the same, and all of them where the unused ones held zeros
pub record TextRestores (list : List SavedSetting) : Type 0 where
  pub written : RestoredAs list (settings_text list)
  pub returned : RestoredAs list (with_returns (settings_text list))
  pub unended : (text : List ℕ) → text ++ (newline ∷ []) ≡ settings_text list → RestoredAs list text
  pub like : (text : List ℕ) → is_like text (settings_text list) ≡ true → RestoredAs list text
  pub only : (text : List ℕ) → RestoredAs list text → is_like text (settings_text list) ≡ true
  pub used : used_of (list_restored list) ≡ used_of list
  pub zeros : ZerosUnused list → list_restored list ≡ list
