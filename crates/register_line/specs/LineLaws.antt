-- 128 bytes have room for the text of every line.
use Rattle.std.specs.Prelude.{Bool, true, false, cond, List, ℕ, ◌≤◌, eqb, length}
use Rattle.std.proofs.Common.{arith, length-append, length-take}
use Rattle.text.specs.TextLaws.{decimal_short}
use Rattle.profile.specs.declared.Profile.{Profile}
use Rattle.profile.specs.declared.Profile.TheVariants.{VV5404, VV5300}
use Rattle.two_wire.specs.declared.Sensor.{Sensor}
use Rattle.typed_setting.specs.declared.Setting.{Setting}
use Rattle.typed_setting.specs.declared.Setting.TheVariants.{Single, Double, Beyond, NoGain, Unknown}
use Rattle.typed_setting.specs.Setting.{setting_of}
use Rattle.typed_setting.specs.SettingLaws.{name_length, value_name}
use Rattle.two_wire_text.specs.Hex.{is_message}
use Rattle.two_wire_text.specs.ExplainedLaws.{message_short}
use Rattle.register_line.specs.Bare.{bare_length, bare}
use Rattle.register_line.specs.Line.{line_head, beyond_text, no_gain_text, unknown_text, too_long_text, text_by, text_of}

shorter : (t : Bool) (v w : List ℕ) → length v ≤ 128 → length w ≤ 128 → length (cond t v w) ≤ 128
shorter true v w h g = h
shorter false v w h g = g

words_short : (n : ℕ) → length (line_head n) ≤ 27
unfolding line_head
words_short n = simp (length-append) (omega (arith, decimal_short n))

beyond_short : (n at limit : ℕ) (line : List ℕ) → at ≤ 8 → length (beyond_text n at limit line) ≤ 128
unfolding beyond_text
beyond_short n at limit line h = simp (length-append, length-take) (omega (arith, words_short n, decimal_short limit))

no_gain_short : (n : ℕ) → length (no_gain_text n) ≤ 128
unfolding no_gain_text
no_gain_short n = simp (length-append) (omega (arith, words_short n))

unknown_short : (p : Profile) (n : ℕ) → length (unknown_text p n) ≤ 128
unfolding unknown_text
unknown_short VV5404 n = simp (length-append) (omega (arith, words_short n))
unknown_short VV5300 n = simp (length-append) (omega (arith, words_short n))

pub too_long_short : (n room : ℕ) → length (too_long_text n room) ≤ 128
unfolding too_long_text
too_long_short n room = simp (length-append) (omega (arith, words_short n, decimal_short room))

by_short : (asked : Setting) (p : Profile) (s : Sensor) (n : ℕ) (line : List ℕ) → name_length asked ≤ 8 → length (text_by asked p s n line) ≤ 128
unfolding text_by
by_short (Single i v) p s n line h = omega arith
by_short (Double i v j w) p s n line h = omega arith
by_short (Beyond at limit) p s n line h = beyond_short n at limit line h
by_short NoGain p s n line h = no_gain_short n
by_short Unknown p s n line h = shorter (is_message line) _ _ (omega (arith, message_short s line)) (unknown_short p n)

pub text_short : (p : Profile) (s : Sensor) (n : ℕ) (line : List ℕ) → length (text_of p s n line) ≤ 128
unfolding text_of
text_short p s n line =
    shorter (eqb (bare_length line) 0) _ _ (omega arith) (by_short (setting_of p (bare line)) p s n (bare line) (value_name p (bare line)))
