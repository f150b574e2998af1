-- The name of a value that is refused has at most eight characters.
use Rattle.std.specs.Prelude.{Bool, true, false, cond, List, ℕ, ◌≤◌, ltb}
use Rattle.std.proofs.Common.{arith}
use Rattle.profile.specs.declared.Profile.{Profile}
use Rattle.profile.specs.declared.Profile.TheVariants.{VV5404, VV5300}
use Rattle.exposure.specs.Exposure.{is_gain}
use Rattle.typed_setting.specs.declared.Setting.{Setting}
use Rattle.typed_setting.specs.declared.Setting.TheVariants.{Single, Double, Beyond, NoGain, Unknown}
use Rattle.named_value.specs.Number.{first_word_is}
use Rattle.typed_setting.specs.Setting.{single, double, gain_code, shared_setting, setting_vv5404, setting_vv5300, setting_of}

-- the length of that name
abbrev pub name_length : Setting → ℕ
name_length (Single i v) = 0
name_length (Double i v j w) = 0
name_length (Beyond at limit) = at
name_length NoGain = 0
name_length Unknown = 0

either : (t : Bool) (a b : Setting) → name_length a ≤ 8 → name_length b ≤ 8 → name_length (cond t a b) ≤ 8
either true a b h g = h
either false a b h g = g

single_name : (at i limit n : ℕ) → at ≤ 8 → name_length (single at i limit n) ≤ 8
unfolding single
single_name at i limit n h = either (ltb limit n) _ _ h (omega arith)

double_name : (at high low limit n : ℕ) → at ≤ 8 → name_length (double at high low limit n) ≤ 8
unfolding double
double_name at high low limit n h = either (ltb limit n) _ _ h (omega arith)

gain_name : (n : ℕ) → name_length (gain_code n) ≤ 8
unfolding gain_code
gain_name n = either (is_gain n) _ _ (omega arith) (omega arith)

shared_name : (line : List ℕ) → name_length (shared_setting line) ≤ 8
unfolding shared_setting
shared_name line =
    either (first_word_is _ line) _ _ (single_name 7 _ _ _ (omega arith))
    (either (first_word_is _ line) _ _ (single_name 6 _ _ _ (omega arith))
    (either (first_word_is _ line) _ _ (single_name 6 _ _ _ (omega arith))
    (either (first_word_is _ line) _ _ (single_name 6 _ _ _ (omega arith))
    (either (first_word_is _ line) _ _ (single_name 6 _ _ _ (omega arith)) (omega arith)))))

pub value_name : (p : Profile) (line : List ℕ) → name_length (setting_of p line) ≤ 8
unfolding setting_vv5404 setting_vv5300
value_name VV5404 line =
    either (first_word_is _ line) _ _ (double_name 4 _ _ _ _ (omega arith))
    (either (first_word_is _ line) _ _ (double_name 6 _ _ _ _ (omega arith))
    (either (first_word_is _ line) _ _ (gain_name _)
    (either (first_word_is _ line) _ _ (single_name 6 _ _ _ (omega arith)) (shared_name line))))
value_name VV5300 line =
    either (first_word_is _ line) _ _ (single_name 4 _ _ _ (omega arith))
    (either (first_word_is _ line) _ _ (single_name 6 _ _ _ (omega arith))
    (either (first_word_is _ line) _ _ (single_name 4 _ _ _ (omega arith))
    (either (first_word_is _ line) _ _ (single_name 6 _ _ _ (omega arith)) (shared_name line))))
