-- The numbers that are gathered of a text, whatever it is, are such as fields can hold: each digit and each line leaves them so.
use Rattle.std.specs.Prelude.{List, [], ◌∷◌, ℕ, zero, suc, ◌≤◌, eqb, ltb, leb, set}
use Rattle.std.proofs.Common.{arith}
use Rattle.text.specs.Text.{newline}
use Rattle.saved_setting.specs.declared.SavedSetting.{SavedSetting}
use Rattle.bits.specs.Tests.{by_test}
use Rattle.saved_text.specs.declared.FieldName.{FieldName}
use Rattle.saved_text.specs.declared.FieldName.TheVariants.{Version, Fine, Coarse, Gain, Divisor}
use Rattle.saved_lines.specs.SavedLines.{unused}
use Rattle.saved_text.specs.SettingsText.{LineFields, TextGathered, no_fields, number_of, with_number, with_one_more, with_field, fields_after, setting_of_fields, with_setting_line, gathered_after, gathered_over, nothing_gathered, numbers_of}
use Rattle.saved_text_laws.specs.SettingsRead.{InFields, AllInFields}

record InLine (f : LineFields) : Type 0 where
  version : f.version ≤ 65535
  fine : f.fine ≤ 65535
  coarse : f.coarse ≤ 65535
  gain : f.gain ≤ 65535
  divisor : f.divisor ≤ 65535

record InText (g : TextGathered) : Type 0 where
  list : AllInFields g.list
  fields : InLine g.fields

none_in : InLine no_fields
none_in = record { version = omega arith; fine = omega arith; coarse = omega arith; gain = omega arith; divisor = omega arith }

number_in : (k : FieldName) (f : LineFields) (n : ℕ) → n ≤ 65535 → InLine f → InLine (with_number k f n)
number_in Version f n l r = record { version = l; fine = r.fine; coarse = r.coarse; gain = r.gain; divisor = r.divisor }
number_in Fine f n l r = record { version = r.version; fine = l; coarse = r.coarse; gain = r.gain; divisor = r.divisor }
number_in Coarse f n l r = record { version = r.version; fine = r.fine; coarse = l; gain = r.gain; divisor = r.divisor }
number_in Gain f n l r = record { version = r.version; fine = r.fine; coarse = r.coarse; gain = l; divisor = r.divisor }
number_in Divisor f n l r = record { version = r.version; fine = r.fine; coarse = r.coarse; gain = r.gain; divisor = l }

field_in : (f : LineFields) → InLine f → InLine (with_field f)
field_in f r = record { version = r.version; fine = r.fine; coarse = r.coarse; gain = r.gain; divisor = r.divisor }

after_in : (f : LineFields) (c : ℕ) → InLine f → InLine (fields_after f c)
unfolding fields_after
after_in f c r =
    by_test InLine (leb 0x30 c)
    (λ d. by_test InLine (leb c 0x39) (λ e. number_in f.name f (with_one_more (number_of f.name f) c) (omega arith) r) (λ e. by_test InLine (eqb c 0x3A) (λ q. field_in f r) (λ q. r)))
    (λ d. by_test InLine (eqb c 0x2C) (λ q. field_in f r) (λ q. r))

set_in : (list : List SavedSetting) (i : ℕ) (s : SavedSetting) → AllInFields list → InFields s → AllInFields (set list i s)
set_in [] i s r h = r
set_in (x ∷ list) zero s r h = (h, r.1)
set_in (x ∷ list) (suc i) s r h = (r.0, set_in list i s r.1 h)

setting_in_lem : (f : LineFields) → InLine f → InFields (setting_of_fields f)
setting_in_lem f r = record { version = r.version; fine = r.fine; coarse = r.coarse; gain = omega arith; divisor = omega arith }

line_in_lem : (g : TextGathered) → InText g → InText (with_setting_line g)
line_in_lem g r =
    by_test InText (ltb g.count 8) (λ e. record { list = set_in g.list g.count (setting_of_fields g.fields) r.list (setting_in_lem g.fields r.fields); fields = none_in })
    (λ e. record { list = r.list; fields = none_in })

next_in_lem : (g : TextGathered) (c : ℕ) → InText g → InText (gathered_after g c)
unfolding gathered_after
next_in_lem g c r =
    by_test InText (eqb c newline) (λ e. line_in_lem g r) (λ e. record { list = r.list; fields = after_in g.fields c r.fields })

over_in : (g : TextGathered) (text : List ℕ) → InText g → InText (gathered_over g text)
over_in g [] r = r
over_in g (c ∷ text) r = over_in (gathered_after g c) text (next_in_lem g c r)

unused_in : InFields unused
unused_in = record { version = omega arith; fine = omega arith; coarse = omega arith; gain = omega arith; divisor = omega arith }

nothing_in : InText nothing_gathered
nothing_in =
    record { list = (unused_in, (unused_in, (unused_in, (unused_in, (unused_in, (unused_in, (unused_in, (unused_in, tt)))))))); fields = none_in }

pub numbers_in_fields : (text : List ℕ) → AllInFields (numbers_of text)
unfolding numbers_of
numbers_in_fields text = (line_in_lem (gathered_over nothing_gathered text) (over_in nothing_gathered text nothing_in)).list
