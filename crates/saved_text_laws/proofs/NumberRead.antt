-- The numbers of a line are those that were written: a number's digits one after another, then a line's five numbers. So a line that is written
-- is gathered as its setting.
use Rattle.std.specs.Prelude.{◌≡◌, refl, Bool, true, false, cond, List, [], ◌∷◌, ◌++◌, ℕ, suc, ◌+◌, ◌*◌, ◌/◌, ◌%◌, ◌<◌, ◌≤◌, eqb, ltb, leb}
use Rattle.std.proofs.Common.{ap, ◌∙◌, arith, ltb-true, ltb-false, le-leb, ne_eqb}
use Rattle.text.specs.Text.{ascii, newline, digit, digits, decimal}
use Rattle.saved_setting.specs.declared.SavedSetting.{SavedSetting}
use Rattle.saved_text.specs.declared.FieldName.{FieldName}
use Rattle.saved_text.specs.declared.FieldName.TheVariants.{Version, Fine, Coarse, Gain, Divisor}
use Rattle.saved_lines.specs.SavedLines.{field, setting_line}
use Rattle.saved_text.specs.SettingsText.{LineFields, TextGathered, with_number, with_one_more, with_digit, no_fields, setting_of_fields, fields_after, with_setting_line, gathered_after, gathered_over}
use Rattle.saved_text_laws.specs.SettingsRead.{InFields}

-- what is gathered, with other numbers of the open line
abbrev pub gathered_with : TextGathered → LineFields → TextGathered
gathered_with g f = record { list = g.list; count = g.count; fields = f }

-- over one text after another
pub over_append : (g : TextGathered) (s t : List ℕ) → gathered_over g (s ++ t) ≡ gathered_over (gathered_over g s) t
over_append g [] t = refl
over_append g (c ∷ s) t = over_append (gathered_after g c) s t

-- A number.

digit_read : (g : TextGathered) (k : FieldName) (f : LineFields) (n d : ℕ) → d < 10 → 10 * n + d ≤ 65535
    → gathered_after (gathered_with g (with_number k f n)) (digit d) ≡ gathered_with g (with_number k f (10 * n + d))
unfolding gathered_after fields_after
digit_read g k f n d h l =
    let other : eqb (digit d) newline ≡ false = ne_eqb (digit d) newline (λ e. omega (arith, e)) in
    let low : leb 0x30 (digit d) ≡ true = le-leb 0x30 (digit d) (omega arith) in
    let high : leb (digit d) 0x39 ≡ true = le-leb (digit d) 0x39 (omega (arith, h)) in
    let sum : with_one_more n (digit d) ≡ 10 * n + d = omega (arith, l) in
    simp (other, low, high) (ap (gathered_with g) (at k sum))
  where
    at : (k : FieldName) {m : ℕ} → with_one_more n (digit d) ≡ m → with_digit (with_number k f n) (digit d) ≡ with_number k f m
    at Version e = simp e
    at Fine e = simp e
    at Coarse e = simp e
    at Gain e = simp e
    at Divisor e = simp e

module _ (g : TextGathered) (k : FieldName) (f : LineFields) where
  -- a number whose tenth is read as it is
  digits_read : (i n : ℕ) → n ≤ 65535 → (10 ≤ n → gathered_over (gathered_with g (with_number k f 0)) (digits i (n / 10)) ≡ gathered_with g (with_number k f (n / 10)))
      → gathered_over (gathered_with g (with_number k f 0)) (digits (suc i) n) ≡ gathered_with g (with_number k f n)
  digits_read i n l tenth = either (ltb n 10) refl
    where
      either : (t : Bool) → ltb n 10 ≡ t
          → gathered_over (gathered_with g (with_number k f 0)) (cond t (digit n ∷ []) (digits i (n / 10) ++ (digit (n % 10) ∷ []))) ≡ gathered_with g (with_number k f n)
      either true e =
          let whole : 10 * 0 + n ≡ n = omega arith in
          digit_read g k f 0 n (ltb-true n 10 e) (omega (arith, l)) ∙ ap (λ (m : ℕ). gathered_with g (with_number k f m)) whole
      either false e =
          let whole : 10 * (n / 10) + n % 10 ≡ n = omega arith in
          over_append (gathered_with g (with_number k f 0)) (digits i (n / 10)) (digit (n % 10) ∷ [])
          ∙ ap (λ (x : TextGathered). gathered_after x (digit (n % 10))) (tenth (ltb-false n 10 e))
          ∙ digit_read g k f (n / 10) (n % 10) (omega arith) (omega (arith, l))
          ∙ ap (λ (m : ℕ). gathered_with g (with_number k f m)) whole

  -- five digits are enough
  number_read : (n : ℕ) → n ≤ 65535 → gathered_over (gathered_with g (with_number k f 0)) (decimal n) ≡ gathered_with g (with_number k f n)
  unfolding decimal
  number_read n l =
      digits_read 19 n l (λ a. digits_read 18 (n / 10) (omega (arith, l)) (λ b. digits_read 17 (n / 10 / 10) (omega (arith, l))
      (λ c. digits_read 16 (n / 10 / 10 / 10) (omega (arith, l)) (λ d. digits_read 15 (n / 10 / 10 / 10 / 10) (omega (arith, l)) (λ e. absurd (omega (arith, l, e)))))))

  field_read : (h : TextGathered) (name : List ℕ) (n : ℕ) → n ≤ 65535 → gathered_over h name ≡ gathered_with g (with_number k f 0)
      → gathered_over h (field name n) ≡ gathered_with g (with_number k f n)
  field_read h name n l e = over_append h name (decimal n) ∙ ap (λ (x : TextGathered). gathered_over x (decimal n)) e ∙ number_read n l

-- A line.

-- the numbers of a setting
abbrev pub fields_of : SavedSetting → LineFields
fields_of s = record { version = s.version; fine = s.fine; coarse = s.coarse; gain = s.gain; divisor = s.divisor; name = Divisor }

pub setting_back : (s : SavedSetting) → InFields s → setting_of_fields (fields_of s) ≡ s
setting_back s r =
    let gain : s.gain % 256 ≡ s.gain = omega (arith, r.gain) in
    let divisor : s.divisor % 256 ≡ s.divisor = omega (arith, r.divisor) in
    simp (gain, divisor)

over_two : (g h : TextGathered) {k : TextGathered} (s t : List ℕ) → gathered_over g s ≡ h → gathered_over h t ≡ k → gathered_over g (s ++ t) ≡ k
over_two g h s t e d = over_append g s t ∙ ap (λ (x : TextGathered). gathered_over x t) e ∙ d

pub line_read_lem : (g : TextGathered) (s : SavedSetting) → InFields s → gathered_over (gathered_with g no_fields) (setting_line s) ≡ with_setting_line (gathered_with g (fields_of s))
unfolding gathered_after fields_after
line_read_lem g s r =
    let f1 : LineFields = record { version = s.version; fine = 0; coarse = 0; gain = 0; divisor = 0; name = Version } in
    let f2 : LineFields = record { version = s.version; fine = s.fine; coarse = 0; gain = 0; divisor = 0; name = Fine } in
    let f3 : LineFields = record { version = s.version; fine = s.fine; coarse = s.coarse; gain = 0; divisor = 0; name = Coarse } in
    let f4 : LineFields = record { version = s.version; fine = s.fine; coarse = s.coarse; gain = s.gain; divisor = 0; name = Gain } in
    over_two (gathered_with g no_fields) (gathered_with g f1) (field (ascii "version ") s.version) _
    (field_read g Version f1 (gathered_with g no_fields) (ascii "version ") s.version r.version refl)
    (over_two (gathered_with g f1) (gathered_with g f2) (field (ascii ": fine ") s.fine) _
    (field_read g Fine f2 (gathered_with g f1) (ascii ": fine ") s.fine r.fine refl)
    (over_two (gathered_with g f2) (gathered_with g f3) (field (ascii ", coarse ") s.coarse) _
    (field_read g Coarse f3 (gathered_with g f2) (ascii ", coarse ") s.coarse r.coarse refl)
    (over_two (gathered_with g f3) (gathered_with g f4) (field (ascii ", gain ") s.gain) _
    (field_read g Gain f4 (gathered_with g f3) (ascii ", gain ") s.gain (omega (arith, r.gain)) refl)
    (over_two (gathered_with g f4) (gathered_with g (fields_of s)) (field (ascii ", divisor ") s.divisor) (newline ∷ [])
    (field_read g Divisor (fields_of s) (gathered_with g f4) (ascii ", divisor ") s.divisor (omega (arith, r.divisor)) refl) refl))))
