-- The text of a list of saved settings: a line for each used place.
use Rattle.std.specs.Prelude.{cond, List, [], ◌∷◌, ◌++◌, ℕ, zero, suc, eqb, get_or}
use Rattle.text.specs.Text.{ascii, newline, decimal}
use Rattle.saved_setting.specs.declared.SavedSetting.{SavedSetting}

-- a name and a number
abbrev pub field : List ℕ → ℕ → List ℕ
field name n = name ++ decimal n

-- the line of a setting
abbrev pub setting_line : SavedSetting → List ℕ
setting_line s =
    field (ascii "version ") s.version
    ++ (field (ascii ": fine ") s.fine
    ++ (field (ascii ", coarse ") s.coarse
    ++ (field (ascii ", gain ") s.gain ++ (field (ascii ", divisor ") s.divisor ++ (newline ∷ [])))))

-- an unused place has no line
unfoldable pub place_line : SavedSetting → List ℕ
place_line s = cond (eqb s.version 0) [] (setting_line s)

-- an unused place
abbrev pub unused : SavedSetting
unused = record { version = 0; fine = 0; coarse = 0; gain = 0; divisor = 0 }

-- the lines of a list's first places, oldest first
abbrev pub place_lines : ℕ → List SavedSetting → List ℕ
place_lines zero list = []
place_lines (suc n) list = place_lines n list ++ place_line (get_or list n unused)

-- a list's text: the lines of its eight places
unfoldable pub settings_text : List SavedSetting → List ℕ
settings_text list = place_lines 8 list
