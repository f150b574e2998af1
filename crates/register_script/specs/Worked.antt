-- Scripts worked: what a technician writes, its text, and what is told of lines that are refused.
use Rattle.std.specs.Prelude.{◌≡◌, refl, true, false, List, ℕ, replicate}
use Rattle.exposure.specs.Exposure.{is_gain}
use Rattle.text.specs.Text.{ascii, decimal, hex_digit}
use Rattle.profile.specs.declared.Profile.{Profile}
use Rattle.profile.specs.declared.Profile.TheVariants.{VV5404, VV5300}
use Rattle.named_value.specs.Number.{is_blank, first_word_is, digit_onto}
use Rattle.typed_setting.specs.Setting.{single, double, gain_code, shared_setting, setting_vv5404, setting_vv5300}
use Rattle.two_wire_text.specs.Hex.{is_message}
use Rattle.register_line.specs.Line.{line_head, beyond_text, no_gain_text, unknown_text, too_long_text, text_by, refused_by, text_of, refused_of}
use Rattle.register_script.specs.Script.{start, place_of, line_text, line_refused, line_after, blank_after, kept_after, place_after, text_on, refused_on, script_text}

-- the text for a script, with room for lines of 23 characters, and the one for its refused lines
pub record Worked (p : Profile) (script text refusals : List ℕ) : Type 0 where
  pub texts : script_text false (place_of (start p) (replicate 24 0)) script ≡ text
  pub refuses : script_text true (place_of (start p) (replicate 24 0)) script ≡ refusals

-- one byte each for fine and coarse, all eight gain codes, and setup3
pub on_the_vv5300 : Worked VV5300 (ascii "fine 255\ncoarse 146\ngain 6 # 1.6\nsetup3 15") (ascii "20 21 ff\n20 24 06\n20 13 0f\n")
    (ascii "line 2: coarse takes 0 to 145\n")
unfolding decimal hex_digit first_word_is digit_onto single setting_vv5300 is_blank line_head beyond_text text_by refused_by text_of refused_of line_text line_refused line_after blank_after kept_after place_after text_on refused_on
on_the_vv5300 = record { texts = refl; refuses = refl }

-- two bytes for fine, four gain codes, and no setup3
pub on_the_vv5404 : Worked VV5404 (ascii "# night\n  fine \t 255\r\n\ngain 6\nsetup3 15\nsetup50 3\nfine 120 for the night scene") (ascii "20 20 00\n20 21 ff\n")
    (ascii "line 4: gain takes 0, 1, 3 or 7\nline 5: no setting of the VV5404, and no message\nline 6: no setting of the VV5404, and no message\nline 7: 24 characters or more\n")
unfolding decimal hex_digit first_word_is digit_onto double gain_code shared_setting setting_vv5404 is_message is_blank line_head no_gain_text unknown_text too_long_text text_by refused_by text_of refused_of line_text line_refused line_after blank_after kept_after place_after text_on refused_on is_gain
on_the_vv5404 = record { texts = refl; refuses = refl }
