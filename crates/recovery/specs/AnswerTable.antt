-- The table of 01 for a mark's answer, 1 to 9: each number with its condition, and no lower one applies. Texts oldest nibble first. Definitions only.
use Rattle.std.specs.Prelude.{◌≡◌, true, false, ◌&&◌, List, [], ◌∷◌, ℕ, ◌+◌, ◌*◌, length}
use Rattle.std.proofs.Math.Option.{Option, none, some}
use Rattle.refusal.specs.Refusal.{damaged_code, reserved_code, unfinished_line, wrong_length, bad_number, bad_body, no_end_of_line, end_without_line, bad_gap}
use Rattle.line_code.specs.declared.Kind.{Kind}
use Rattle.line_code.specs.declared.Meaning.TheVariants.{EndOfLine, Line, ReservedEC, ReservedF1}
use Rattle.line_code.specs.declared.Reading.{Reading}
use Rattle.line_code.specs.declared.Reading.TheVariants.{Says, Damaged}
use Rattle.line_code.specs.declared.Repair.{Repair}
use Rattle.line_code.specs.LineCode.{reading_of, is_end, repair_of}
use Rattle.line_number.specs.LineNumber.{number_good, number_from}
use Rattle.profile.specs.declared.Profile.{Profile}
use Rattle.profile.specs.declared.Profile.TheVariants.{VV5404, VV5300}
use Rattle.profile.specs.Profile.{body_length, null_byte}
use Rattle.profile.specs.Layout.{rules, fits, gap_fits}
use Rattle.stream.specs.declared.Before.{Before}
use Rattle.stream.specs.declared.Before.TheVariants.{NoLine, RefusedLine, HandedOut}
use Rattle.stream.specs.Answers.{facts, Outcome, line, refused, good_gap, line_nibbles, period_of, all_f, after_code}

-- a reserved code, clean or repaired
pub data Reserved : Reading → Type 0 where
  reserved_ec : {r : Repair} → Reserved (Says ReservedEC r)
  reserved_f1 : {r : Repair} → Reserved (Says ReservedF1 r)

-- nibbles that are bytes, each with its high nibble first
pub data AreBytes : List ℕ → List ℕ → Type 0 where
  no_bytes : AreBytes [] []
  byte_more : {h l : ℕ} {w bs : List ℕ} → AreBytes w bs → AreBytes (h ∷ l ∷ w) ((16 * h + l) ∷ bs)

-- a line's text of the right length: code, two number bytes and body
pub record LineLaid (p : Profile) (t : List ℕ) (a b : ℕ) (body : List ℕ) : Type 0 where
  pub code : ℕ
  pub bytes : AreBytes t (code ∷ a ∷ b ∷ body)
  pub long : length body ≡ body_length p

-- the mark before is a line's, handed out or refused
pub data LineBefore (k : Kind) : Before → Type 0 where
  line_refused_lem : LineBefore k (RefusedLine k)
  line_handed : LineBefore k (HandedOut k)

-- a gap as laid out after a line of the kind k, and its two bytes: nothing but F, or two bytes that fit and then nothing but F
pub data GapLaid (k : Kind) : Profile → List ℕ → ℕ → ℕ → Type 0 where
  only_f : {w : List ℕ} → all_f w ≡ true → GapLaid k VV5404 w null_byte null_byte
  two_then_f : {h l h₂ l₂ : ℕ} {w : List ℕ} → gap_fits VV5300 k (16 * h + l) (16 * h₂ + l₂) ≡ true → all_f w ≡ true
      → GapLaid k VV5300 (h ∷ l ∷ h₂ ∷ l₂ ∷ w) (16 * h + l) (16 * h₂ + l₂)

-- a line mark that another mark follows: of its text and the next code
pub data LineTable (p : Profile) (k : Kind) (r : Repair) (t : List ℕ) (next : ℕ) : Outcome → Type 0 where
  -- 4
  wrong_length_lem : (length t ≡ line_nibbles p → ⊥) → LineTable p k r t next (refused wrong_length)
  -- 5
  bad_number_lem : {a b : ℕ} {body : List ℕ} → LineLaid p t a b body → (number_good a && number_good b) ≡ false → LineTable p k r t next (refused bad_number)
  -- 6
  bad_body_lem : {a b : ℕ} {body : List ℕ} → LineLaid p t a b body → (number_good a && number_good b) ≡ true → fits (rules p k) body ≡ false
      → LineTable p k r t next (refused bad_body)
  -- 7
  no_end : {a b : ℕ} {body : List ℕ} → LineLaid p t a b body → (number_good a && number_good b) ≡ true → fits (rules p k) body ≡ true
      → is_end (reading_of next) ≡ false → LineTable p k r t next (refused no_end_of_line)
  -- the line
  a_line : {a b : ℕ} {body : List ℕ} → LineLaid p t a b body → (number_good a && number_good b) ≡ true → fits (rules p k) body ≡ true
      → is_end (reading_of next) ≡ true → LineTable p k r t next (line (facts k (number_from a b) r (repair_of (reading_of next))) body)

-- any mark: of the mark before, the code, the text and the next mark's code, none at finish
pub data Table (p : Profile) (before : Before) (code : ℕ) (t : List ℕ) : Option ℕ → Outcome → Type 0 where
  -- 1
  damaged : {next : Option ℕ} → reading_of code ≡ Damaged → Table p before code t next (refused damaged_code)
  -- 2
  reserved : {next : Option ℕ} → Reserved (reading_of code) → Table p before code t next (refused reserved_code)
  -- 3
  unfinished : (k : Kind) (r : Repair) → reading_of code ≡ Says (Line k) r → Table p before code t none (refused unfinished_line)
  -- 4 to 7, or the line
  of_line : (k : Kind) (r : Repair) {next : ℕ} {o : Outcome} → reading_of code ≡ Says (Line k) r → LineTable p k r t next o
      → Table p before code t (some next) o
  -- 8
  without_line : (r : Repair) {next : Option ℕ} → reading_of code ≡ Says EndOfLine r → before ≡ NoLine → Table p before code t next (refused end_without_line)
  -- 9
  bad_gap_lem : (r : Repair) (k : Kind) {next : Option ℕ} → reading_of code ≡ Says EndOfLine r → LineBefore k before
      → ((a b : ℕ) → GapLaid k p (after_code t) a b → ⊥) → Table p before code t next (refused bad_gap)
  -- the good gap, with its two bytes and its line's period
  a_gap : (r : Repair) (k : Kind) (a b : ℕ) {next : Option ℕ} → reading_of code ≡ Says EndOfLine r → LineBefore k before
      → GapLaid k p (after_code t) a b → Table p before code t next (good_gap (period_of p before (length t) next) a b)
