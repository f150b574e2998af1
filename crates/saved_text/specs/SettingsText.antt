-- The text of a list of saved settings, read.
use Rattle.std.specs.Prelude.{Bool, true, false, ◌&&◌, cond, List, [], ◌∷◌, ℕ, ◌+◌, ◌-◌, ◌*◌, ◌%◌, eqb, ltb, leb, drop, set, replicate}
use Rattle.text.specs.Text.{newline}
use Rattle.saved_setting.specs.declared.SavedSetting.{SavedSetting}
use Rattle.saved_setting.specs.SavedSettings.{is_saved_list}
use Rattle.saved_lines.specs.SavedLines.{unused, settings_text}
use Rattle.saved_text.specs.declared.FieldName.{FieldName}
use Rattle.saved_text.specs.declared.FieldName.TheVariants.{Version, Fine, Coarse, Gain, Divisor}
use Rattle.saved_text.specs.declared.Fields.{Fields}
use Rattle.saved_text.specs.declared.LinesGathered.{LinesGathered}
use Rattle.saved_text.specs.declared.Restored.{Restored}

-- The numbers of a text.

-- the five numbers of a line, with the name of the one that is being read, and what is gathered of a text, by names that laws elsewhere can say
abbrev pub LineFields : Type 0
LineFields = Fields

-- what is gathered of a text, under a name for laws elsewhere
abbrev pub TextGathered : Type 0
TextGathered = LinesGathered

-- at a line's start
abbrev pub no_fields : Fields
no_fields = record { version = 0; fine = 0; coarse = 0; gain = 0; divisor = 0; name = Version }

-- the number of a name
abbrev pub number_of : FieldName → Fields → ℕ
number_of Version f = f.version
number_of Fine f = f.fine
number_of Coarse f = f.coarse
number_of Gain f = f.gain
number_of Divisor f = f.divisor

-- with another number of a name, which is being read
abbrev pub with_number : FieldName → Fields → ℕ → Fields
with_number Version f n = record { version = n; fine = f.fine; coarse = f.coarse; gain = f.gain; divisor = f.divisor; name = Version }
with_number Fine f n = record { version = f.version; fine = n; coarse = f.coarse; gain = f.gain; divisor = f.divisor; name = Fine }
with_number Coarse f n = record { version = f.version; fine = f.fine; coarse = n; gain = f.gain; divisor = f.divisor; name = Coarse }
with_number Gain f n = record { version = f.version; fine = f.fine; coarse = f.coarse; gain = n; divisor = f.divisor; name = Gain }
with_number Divisor f n = record { version = f.version; fine = f.fine; coarse = f.coarse; gain = f.gain; divisor = n; name = Divisor }

-- a number with a digit more; it starts again from 0 after 65,535
abbrev pub with_one_more : ℕ → ℕ → ℕ
with_one_more n c = (10 * n + (c - 0x30)) % 65536

-- a digit more of the number that is being read
abbrev pub with_digit : Fields → ℕ → Fields
with_digit f c = with_number f.name f (with_one_more (number_of f.name f) c)

-- the numbers of a line in the order of its text; the divisor is the last
abbrev pub next_name : FieldName → FieldName
next_name Version = Fine
next_name Fine = Coarse
next_name Coarse = Gain
next_name Gain = Divisor
next_name Divisor = Divisor

-- the next number is read
abbrev pub with_field : Fields → Fields
with_field f = record { version = f.version; fine = f.fine; coarse = f.coarse; gain = f.gain; divisor = f.divisor; name = next_name f.name }

-- a digit makes the number that is being read longer, a colon or a comma ends it
unfoldable pub fields_after : Fields → ℕ → Fields
fields_after f c =
    cond (leb 0x30 c) (cond (leb c 0x39) (with_digit f c) (cond (eqb c 0x3A) (with_field f) f)) (cond (eqb c 0x2C) (with_field f) f)

-- the setting of a line's five numbers
abbrev pub setting_of_fields : Fields → SavedSetting
setting_of_fields f = record { version = f.version; fine = f.fine; coarse = f.coarse; gain = f.gain % 256; divisor = f.divisor % 256 }

-- a line's setting in its place; lines past the eighth have none
abbrev pub with_setting_line : LinesGathered → LinesGathered
with_setting_line g =
    cond (ltb g.count 8)
    (record { list = set g.list g.count (setting_of_fields g.fields); count = g.count + 1; fields = no_fields })
    (record { list = g.list; count = g.count; fields = no_fields })

-- after one character more
unfoldable pub gathered_after : LinesGathered → ℕ → LinesGathered
gathered_after g c =
    cond (eqb c newline) (with_setting_line g) (record { list = g.list; count = g.count; fields = fields_after g.fields c })

-- after a text
abbrev pub gathered_over : LinesGathered → List ℕ → LinesGathered
gathered_over g [] = g
gathered_over g (c ∷ text) = gathered_over (gathered_after g c) text

-- before a text
abbrev pub nothing_gathered : LinesGathered
nothing_gathered = record { list = replicate 8 unused; count = 0; fields = no_fields }

-- the list of a text's numbers; its end ends its last line
unfoldable pub numbers_of : List ℕ → List SavedSetting
numbers_of text = (with_setting_line (gathered_over nothing_gathered text)).list

-- Read.

-- what some editors put before a newline
abbrev pub carriage_return : ℕ
carriage_return = 0x0D

-- how many characters of another text a character is: a carriage return none
unfoldable pub cover_of : ℕ → ℕ
cover_of c = cond (eqb c carriage_return) 0 1

-- a text that starts with a character
abbrev pub starts_by : ℕ → List ℕ → Bool
starts_by c [] = false
starts_by c (d ∷ text) = eqb d c

-- it may stand where the other goes on so
unfoldable pub may_stand : ℕ → List ℕ → Bool
may_stand c whole = cond (eqb c carriage_return) true (starts_by c whole)

-- what may be left of the other at the text's end: nothing, or its last newline
abbrev pub at_most_newline : List ℕ → Bool
at_most_newline [] = true
at_most_newline (c ∷ []) = eqb c newline
at_most_newline (c ∷ d ∷ whole) = false

-- a text is another: its carriage returns don't count, and the other's last newline may be missing
abbrev pub is_like : List ℕ → List ℕ → Bool
is_like [] whole = at_most_newline whole
is_like (c ∷ text) whole = may_stand c whole && is_like text (drop (cover_of c) whole)

-- a text is a list's: that of the list of its numbers, and that list is ordered as it should be
unfoldable pub is_settings_text : List ℕ → Bool
is_settings_text text = is_like text (settings_text (numbers_of text)) && is_saved_list (numbers_of text)

-- the list that a text holds, and whether it is such a text
abbrev pub restored : List ℕ → Restored
restored text = record { list = numbers_of text; valid = is_settings_text text }
