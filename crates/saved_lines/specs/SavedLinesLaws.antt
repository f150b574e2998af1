-- A list's text, a place after another; its length.
use Rattle.std.specs.Prelude.{◌≡◌, Bool, true, false, cond, List, [], ◌++◌, ℕ, zero, suc, ◌+◌, ◌*◌, ◌≤◌, eqb, length, get_or}
use Rattle.std.proofs.Common.{add-one, arith, length-append}
use Rattle.text.specs.TextLaws.{decimal_short}
use Rattle.text.specs.Put.{Puts, Put}
use Rattle.text.specs.PutLaws.{whole}
use Rattle.saved_setting.specs.declared.SavedSetting.{SavedSetting}
use Rattle.saved_lines.specs.SavedLines.{setting_line, place_line, place_lines, settings_text, unused}

-- one place more
pub lines_more : (l : List SavedSetting) (n : ℕ) → place_lines (n + 1) l ≡ place_lines n l ++ place_line (get_or l n unused)
lines_more l n = rw (add-one n)

line_short : (s : SavedSetting) → length (setting_line s) ≤ 142
line_short s =
    simp length-append (omega (arith, decimal_short s.version, decimal_short s.fine, decimal_short s.coarse, decimal_short s.gain, decimal_short s.divisor))

place_short : (s : SavedSetting) → length (place_line s) ≤ 142
unfolding place_line
place_short s = either (eqb s.version 0)
  where
    either : (t : Bool) → length (cond t [] (setting_line s)) ≤ 142
    either true = omega arith
    either false = line_short s

lines_short : (n : ℕ) (l : List SavedSetting) → length (place_lines n l) ≤ n * 142
lines_short zero l = omega arith
lines_short (suc n) l = simp length-append (omega (arith, place_short (get_or l n unused), lines_short n l))

-- 1,136 bytes have room for the text of any list
pub text_whole : {d d₁ : List ℕ} {r : ℕ} (l : List SavedSetting) → 1136 ≤ length d → Puts d 0 (settings_text l) r d₁ → Put d 0 (settings_text l) r d₁
unfolding settings_text
text_whole l h p = whole p (omega (arith, lines_short 8 l))
