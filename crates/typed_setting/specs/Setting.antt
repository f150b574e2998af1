-- Settings by name: the registers that a line asks to write, or what its value may be.
use Rattle.std.specs.Prelude.{cond, List, ℕ, ◌/◌, ◌%◌, ltb, drop}
use Rattle.text.specs.Text.{ascii}
use Rattle.profile.specs.declared.Profile.{Profile}
use Rattle.profile.specs.declared.Profile.TheVariants.{VV5404, VV5300}
use Rattle.exposure.specs.Exposure.{fine_limit25, coarse_limit, divisor_limit, is_gain}
use Rattle.two_wire.specs.RegisterNames.{setup0, setup1, setup2, setup3, setup4, setup5, fine_high, fine_low, coarse_high, coarse_low, gain, clock_divisor}
use Rattle.typed_setting.specs.declared.Setting.{Setting}
use Rattle.typed_setting.specs.declared.Setting.TheVariants.{Single, Double, Beyond, NoGain, Unknown}
use Rattle.named_value.specs.Number.{first_word_is, value_in}

-- Limits: those of the VV5404 are the ones of crate `exposure`, fine exposure that at 25 frames a second.

-- the VV5300's: fine FF at 50 Hz, A8 at 60 Hz, coarse 91 (000, page 32); all eight gain codes (page 33)
abbrev pub fine_limit_vv5300 : ℕ
fine_limit_vv5300 = 0xFF

-- the greatest coarse exposure of a VV5300
abbrev pub coarse_limit_vv5300 : ℕ
coarse_limit_vv5300 = 0x91

-- the greatest gain code of a VV5300
abbrev pub gain_limit_vv5300 : ℕ
gain_limit_vv5300 = 7

-- the greatest value of one register
abbrev pub byte_limit : ℕ
byte_limit = 255

-- Values.

-- a value of one byte, and one of two, after a name of a length; what is no number is above every limit
unfoldable pub single : ℕ → ℕ → ℕ → ℕ → Setting
single at i limit n = cond (ltb limit n) (Beyond at limit) (Single i n)

-- a value in two registers, or beyond its limit
unfoldable pub double : ℕ → ℕ → ℕ → ℕ → ℕ → Setting
double at high low limit n = cond (ltb limit n) (Beyond at limit) (Double high (n / 256) low (n % 256))

-- a gain code of the VV5404
unfoldable pub gain_code : ℕ → Setting
gain_code n = cond (is_gain n) (Single gain n) NoGain

-- Names.

-- a name of a length, then a value
abbrev pub one : List ℕ → ℕ → ℕ → ℕ → Setting
one line at i limit = single at i limit (value_in (drop at line))

-- such a value as it is typed
abbrev pub two : List ℕ → ℕ → ℕ → ℕ → ℕ → Setting
two line at high low limit = double at high low limit (value_in (drop at line))

-- a setting that both sensors have
unfoldable pub shared_setting : List ℕ → Setting
shared_setting line =
    cond (first_word_is (ascii "divisor") line) (one line 7 clock_divisor divisor_limit)
    (cond (first_word_is (ascii "setup0") line) (one line 6 setup0 byte_limit)
    (cond (first_word_is (ascii "setup1") line) (one line 6 setup1 byte_limit)
    (cond (first_word_is (ascii "setup2") line) (one line 6 setup2 byte_limit)
    (cond (first_word_is (ascii "setup4") line) (one line 6 setup4 byte_limit) Unknown))))

-- a setting of a VV5404
unfoldable pub setting_vv5404 : List ℕ → Setting
setting_vv5404 line =
    cond (first_word_is (ascii "fine") line) (two line 4 fine_high fine_low fine_limit25)
    (cond (first_word_is (ascii "coarse") line) (two line 6 coarse_high coarse_low coarse_limit)
    (cond (first_word_is (ascii "gain") line) (gain_code (value_in (drop 4 line)))
    (cond (first_word_is (ascii "setup5") line) (one line 6 setup5 byte_limit) (shared_setting line))))

-- a setting of a VV5300
unfoldable pub setting_vv5300 : List ℕ → Setting
setting_vv5300 line =
    cond (first_word_is (ascii "fine") line) (one line 4 fine_low fine_limit_vv5300)
    (cond (first_word_is (ascii "coarse") line) (one line 6 coarse_low coarse_limit_vv5300)
    (cond (first_word_is (ascii "gain") line) (one line 4 gain gain_limit_vv5300)
    (cond (first_word_is (ascii "setup3") line) (one line 6 setup3 byte_limit) (shared_setting line))))

-- a setting as it is typed, of a sensor
abbrev pub setting_of : Profile → List ℕ → Setting
setting_of VV5404 line = setting_vv5404 line
setting_of VV5300 line = setting_vv5300 line
