-- The starred cases of 01's 'Cases at the edges': one list, and one claim that covers it.
use Rattle.std.specs.Prelude.{◌≡◌, refl, List, [], ◌∷◌, ℕ}
use Rattle.std.proofs.Math.Option.{Option}
use Rattle.std.specs.Int.Count.{ones, ones_in}
use Rattle.refusal.specs.Refusal.{reserved_code}
use Rattle.line_code.specs.declared.Kind.TheVariants.{BL}
use Rattle.line_code.specs.declared.Meaning.TheVariants.{EndOfLine, Line, ReservedEC}
use Rattle.line_code.specs.declared.Reading.{Reading}
use Rattle.line_code.specs.declared.Reading.TheVariants.{Says, Damaged}
use Rattle.line_code.specs.declared.Repair.TheVariants.{Clean, Bit}
use Rattle.line_code.specs.LineCode.{kind_numbered, reserved_of, meaning_of, reading_of}
use Rattle.line_number.specs.LineNumber.{number_byte, two_bytes, encode_of}
use Rattle.profile.specs.declared.Profile.{Profile}
use Rattle.stream.specs.declared.Before.{Before}
use Rattle.stream.specs.Answers.{refused, answer_of}

-- a number is these two bytes; a code byte has this reading; a mark with this code byte is refused with this number, whatever its text
pub data Case : Type 0 where
  number : ℕ → ℕ → ℕ → Case
  code : ℕ → Reading → Case
  answer : ℕ → ℕ → Case

-- a starred case holds
unfoldable pub Holds : Case → Type 0
Holds (number n a b) = encode_of n ≡ two_bytes a b
Holds (code b r) = reading_of b ≡ r
Holds (answer b n) = (p : Profile) (before : Before) (t : List ℕ) (next : Option ℕ) → answer_of p before b t next ≡ refused n

-- each case holds
unfoldable pub AllHold : List Case → Type 0
AllHold [] = Unit {0}
AllHold (c ∷ cs) = Holds c × AllHold cs

-- the starred cases of the papers
unfoldable pub starred : List Case
starred =
    number 0 0x01 0x01
    ∷ number 1 0x01 0x02
    ∷ number 63 0x01 0x7F
    ∷ number 64 0x02 0x01
    ∷ number 302 0x08 0x5D
    ∷ number 303 0x08 0x5E
    ∷ number 4095 0x7F 0x7F
    ∷ code 0x9D (Says (Line BL) Clean)
    ∷ code 0x9C (Says (Line BL) (Bit 0))
    ∷ code 0xBD (Says (Line BL) (Bit 5))
    ∷ code 0x9E Damaged
    ∷ code 0x1D (Says (Line BL) (Bit 7))
    ∷ code 0xFF Damaged
    ∷ code 0x81 (Says EndOfLine (Bit 0))
    ∷ code 0xED (Says ReservedEC (Bit 0))
    ∷ answer 0xED reserved_code
    ∷ []

-- every starred case holds
pub starred_hold : AllHold starred
unfolding AllHold Holds starred number_byte ones ones_in reading_of meaning_of kind_numbered reserved_of answer_of
starred_hold =
    (refl, (refl, (refl, (refl, (refl, (refl, (refl, (refl, (refl, (refl, (refl, (refl, (refl, (refl, (refl, (λ p before t next. refl, tt))))))))))))))))
