-- What a line of a script gives: its text, and the sensor's state after it.
use Rattle.std.specs.Prelude.{◌≡◌, Bool, true, false, not, cond, List, [], ◌∷◌, ◌++◌, ℕ, eqb, take}
use Rattle.text.specs.Text.{ascii, newline, decimal}
use Rattle.text.specs.Put.{Puts}
use Rattle.profile.specs.declared.Profile.{Profile}
use Rattle.profile.specs.declared.Profile.TheVariants.{VV5404, VV5300}
use Rattle.two_wire.specs.declared.Sensor.{Sensor}
use Rattle.two_wire.specs.Messages.{message}
use Rattle.typed_setting.specs.declared.Setting.{Setting}
use Rattle.typed_setting.specs.declared.Setting.TheVariants.{Single, Double, Beyond, NoGain, Unknown}
use Rattle.typed_setting.specs.Setting.{setting_of}
use Rattle.two_wire_text.specs.Hex.{hex_text, is_message}
use Rattle.two_wire_text.specs.Explained.{message_text, message_sensor}
use Rattle.register_line.specs.declared.Reply.{Reply}
use Rattle.register_line.specs.Bare.{bare_length, bare}

-- Why a line is refused: its number, and what it may be.

-- a line by its number
unfoldable pub line_head : ℕ → List ℕ
line_head n = ascii "line " ++ (decimal n ++ ascii ": ")

-- a value above its limit, or none: the name, and the limit
unfoldable pub beyond_text : ℕ → ℕ → ℕ → List ℕ → List ℕ
beyond_text n at limit line = line_head n ++ (take at line ++ (ascii " takes 0 to " ++ (decimal limit ++ (newline ∷ []))))

-- a gain code that there is not
unfoldable pub no_gain_text : ℕ → List ℕ
no_gain_text n = line_head n ++ ascii "gain takes 0, 1, 3 or 7\n"

-- no setting and no message
abbrev pub unknown_words : Profile → List ℕ
unknown_words VV5404 = ascii "no setting of the VV5404, and no message\n"
unknown_words VV5300 = ascii "no setting of the VV5300, and no message\n"

-- a line that is neither
unfoldable pub unknown_text : Profile → ℕ → List ℕ
unknown_text p n = line_head n ++ unknown_words p

-- a line that is too long
unfoldable pub too_long_text : ℕ → ℕ → List ℕ
too_long_text n room = line_head n ++ (decimal room ++ ascii " characters or more\n")

-- Lines.

-- the text for a line, by the setting that it is, or as a message
unfoldable pub text_by : Setting → Profile → Sensor → ℕ → List ℕ → List ℕ
text_by (Single i v) p s n line = hex_text (message i v)
text_by (Double i v j w) p s n line = hex_text (message i v) ++ hex_text (message j w)
text_by (Beyond at limit) p s n line = beyond_text n at limit line
text_by NoGain p s n line = no_gain_text n
text_by Unknown p s n line = cond (is_message line) (message_text s line) (unknown_text p n)

-- a line that is neither a setting with a value it may have nor a message is refused
unfoldable pub refused_by : Setting → List ℕ → Bool
refused_by (Single i v) line = false
refused_by (Double i v j w) line = false
refused_by (Beyond at limit) line = true
refused_by NoGain line = true
refused_by Unknown line = not (is_message line)

-- the state after a line: a setting leaves it
unfoldable pub sensor_by : Setting → Sensor → List ℕ → Sensor
sensor_by (Single i v) s line = s
sensor_by (Double i v j w) s line = s
sensor_by (Beyond at limit) s line = s
sensor_by NoGain s line = s
sensor_by Unknown s line = cond (is_message line) (message_sensor s line) s

-- a line that is empty without its comment has no text
unfoldable pub text_of : Profile → Sensor → ℕ → List ℕ → List ℕ
text_of p s n line = cond (eqb (bare_length line) 0) [] (text_by (setting_of p (bare line)) p s n (bare line))

-- a line is refused
unfoldable pub refused_of : Profile → List ℕ → Bool
refused_of p line = cond (eqb (bare_length line) 0) false (refused_by (setting_of p (bare line)) (bare line))

-- the sensor after a line
unfoldable pub sensor_of : Profile → Sensor → List ℕ → Sensor
sensor_of p s line = cond (eqb (bare_length line) 0) s (sensor_by (setting_of p (bare line)) s (bare line))

-- Calls.

-- what a call replies: the state after a line, whether that is refused, and the text at the front of a buffer, as far as it has room
pub record Replies (s : Sensor) (refused : Bool) (text before after : List ℕ) (r : Reply) : Type 0 where
  pub leaves : r.sensor ≡ s
  pub refuses : r.refused ≡ refused
  pub tells : Puts before 0 text r.length after

-- for the setting that a line is, and for a line
abbrev pub RepliesBy : Setting → Profile → Sensor → ℕ → List ℕ → List ℕ → List ℕ → Reply → Type 0
RepliesBy asked p s n line = Replies (sensor_by asked s line) (refused_by asked line) (text_by asked p s n line)

-- what a call with a line gives
abbrev pub RepliesTo : Profile → Sensor → ℕ → List ℕ → List ℕ → List ℕ → Reply → Type 0
RepliesTo p s n line = Replies (sensor_of p s line) (refused_of p line) (text_of p s n line)
