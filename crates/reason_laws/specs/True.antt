-- What it is for a reason to be true of the input (02, A9): for each reason, the facts of the code, the text and the next mark's code.
use Rattle.std.specs.Prelude.{◌≡◌, Bool, true, false, cond, List, ◌++◌, ℕ, ◌+◌, ◌*◌, ◌%◌, ◌≤◌, ◌<◌, eqb, ltb, length, drop, get_or, None, Option, Some}
use Rattle.refusal.specs.Refusal.{not_a_nibble, bad_state, bad_kind, no_mark_first}
use Rattle.line_code.specs.declared.Kind.{Kind}
use Rattle.line_code.specs.declared.Reading.TheVariants.{Says, Damaged}
use Rattle.line_code.specs.declared.Repair.{Repair}
use Rattle.line_code.specs.declared.Meaning.{Meaning}
use Rattle.line_code.specs.declared.Meaning.TheVariants.{EndOfLine, Line, ReservedEC, ReservedF1}
use Rattle.line_code.specs.LineCode.{kind_numbered, reading_of, is_end}
use Rattle.line_number.specs.LineNumber.{number_good}
use Rattle.profile.specs.declared.Profile.{Profile}
use Rattle.profile.specs.declared.Profile.TheVariants.{VV5404, VV5300}
use Rattle.profile.specs.declared.Rule.TheVariants.{Filler}
use Rattle.profile.specs.Profile.{profile_number, body_length}
use Rattle.profile.specs.Layout.{allows, rules}
use Rattle.stream.specs.Answers.{line_nibbles}
use Rattle.reason.specs.declared.FailedSums.{FailedSums}
use Rattle.reason.specs.declared.Reason.{Reason}
use Rattle.reason.specs.declared.Reason.TheVariants.{GoodLine, GoodGap, DamagedCode, ReservedCode, UnfinishedLine, WrongLength, BadNumber, BadBody, NoEndOfLine, EndWithoutLine, BadGap, ShortGap, Refused}
use Rattle.reason.specs.Sums.{sum_p0, sum_p1, sum_p2, sum_p3, is_odd}
use Rattle.reason.specs.Explanation.{code_at, pair_at, gap_rule, last_kind}
use Rattle.reason.specs.ExplanationLaws.{Begun}

-- Places.

-- a test holds at every place below n
abbrev pub HoldBelow : (ℕ → Bool) → ℕ → Type 0
HoldBelow holds n = (i : ℕ) → i < n → holds i ≡ true

-- i is the first of n places where the test fails
pub record FirstBad (holds : ℕ → Bool) (n i : ℕ) : Type 0 where
  pub within : i < n
  pub bad : holds i ≡ false
  pub good_before : HoldBelow holds i

-- the number byte at place 0 or 1, and the body byte at a place: of a line's text
abbrev pub number_byte_at : List ℕ → ℕ → ℕ
number_byte_at t i = pair_at t (2 + 2 * i)

-- the byte at a place of a text's body
abbrev pub body_byte_at : List ℕ → ℕ → ℕ
body_byte_at t i = pair_at t (6 + 2 * i)

-- a number byte of a text is good
abbrev pub number_holds : List ℕ → ℕ → Bool
number_holds t i = number_good (number_byte_at t i)

-- the layout allows the body byte at a place
abbrev pub body_holds : Profile → Kind → List ℕ → ℕ → Bool
body_holds p k t i = allows (get_or (rules p k) i Filler) (body_byte_at t i)

-- the nibble at a place of a gap is as laid out: in profile 1 the two bytes come first, and each counts by its first nibble
abbrev pub gap_holds : Profile → Kind → List ℕ → ℕ → Bool
gap_holds VV5404 k g i = eqb (get_or g i 0) 15
gap_holds VV5300 k g i = cond (ltb i 4) (cond (eqb (i % 2) 1) true (allows (gap_rule k) (pair_at g i))) (eqb (get_or g i 0) 15)

-- the least nibbles of a gap
abbrev pub gap_least : Profile → ℕ
gap_least VV5404 = 0
gap_least VV5300 = 4

-- Codes.

-- the sums that are told to fail are those that do
pub record SumsFail (b : ℕ) (s : FailedSums) : Type 0 where
  pub first : s.p0 ≡ is_odd (sum_p0 b)
  pub second : s.p1 ≡ is_odd (sum_p1 b)
  pub third : s.p2 ≡ is_odd (sum_p2 b)
  pub fourth : s.p3 ≡ is_odd (sum_p3 b)

-- the code says end of line, a line of a kind, or a reserved meaning: clean or repaired
pub record CodeSays (code : ℕ) (m : Meaning) : Type 0 where
  pub repair : Repair
  pub reads : reading_of code ≡ Says m repair

-- Reasons.

-- a line of a kind that is right as far as this, before a mark with the code c: its length; its number; its body
pub record LineLong (p : Profile) (code : ℕ) (text : List ℕ) (next : Option ℕ) (k : Kind) (c : ℕ) : Type 0 where
  pub is_line : CodeSays code (Line k)
  pub next_is : next ≡ Some c
  pub long : length text ≡ line_nibbles p

-- a line of the right length with a good number
pub record NumberGood (p : Profile) (code : ℕ) (text : List ℕ) (next : Option ℕ) (k : Kind) (c : ℕ) : Type 0 where
  pub so_far : LineLong p code text next k c
  pub number_good : HoldBelow (number_holds text) 2

-- and with a good body
pub record BodyGood (p : Profile) (code : ℕ) (text : List ℕ) (next : Option ℕ) (k : Kind) (c : ℕ) : Type 0 where
  pub so_far : NumberGood p code text next k c
  pub body_good : HoldBelow (body_holds p k text) (body_length p)

-- an end code after a line of a kind
pub record GapAfter (before : Option Kind) (code : ℕ) (k : Kind) : Type 0 where
  pub is_end : CodeSays code EndOfLine
  pub before_is : before ≡ Some k

-- each reason, of the kind of the mark before, the code, the text and the next mark's code. A gap is what follows the end code
pub data TrueOf (p : Profile) (before : Option Kind) (code : ℕ) (text : List ℕ) (next : Option ℕ) : Reason → Type 0 where
  damaged : (s : FailedSums) → reading_of code ≡ Damaged → SumsFail code s → TrueOf p before code text next (DamagedCode code s)
  reserved_ec : CodeSays code ReservedEC → TrueOf p before code text next ReservedCode
  reserved_f1 : CodeSays code ReservedF1 → TrueOf p before code text next ReservedCode
  unfinished : (k : Kind) → CodeSays code (Line k) → next ≡ None → TrueOf p before code text next UnfinishedLine
  wrong_length_lem : (k : Kind) (c : ℕ) → CodeSays code (Line k) → next ≡ Some c → (length text ≡ line_nibbles p → ⊥)
      → TrueOf p before code text next (WrongLength (length text) (line_nibbles p))
  bad_number_lem : (k : Kind) (c i : ℕ) → LineLong p code text next k c → FirstBad (number_holds text) 2 i
      → TrueOf p before code text next (BadNumber i (number_byte_at text i))
  bad_body_lem : (k : Kind) (c i : ℕ) → NumberGood p code text next k c → FirstBad (body_holds p k text) (body_length p) i
      → TrueOf p before code text next (BadBody i (body_byte_at text i))
  no_end : (k : Kind) (c : ℕ) → BodyGood p code text next k c → is_end (reading_of c) ≡ false → TrueOf p before code text next (NoEndOfLine c)
  good_line : (k : Kind) (c : ℕ) → BodyGood p code text next k c → is_end (reading_of c) ≡ true → TrueOf p before code text next GoodLine
  end_without_line_lem : CodeSays code EndOfLine → before ≡ None → TrueOf p before code text next EndWithoutLine
  short_gap : (k : Kind) → GapAfter before code k → length (drop 2 text) < gap_least p
      → TrueOf p before code text next (ShortGap (length (drop 2 text)))
  bad_gap_lem : (k : Kind) (i : ℕ) → GapAfter before code k → gap_least p ≤ length (drop 2 text)
      → FirstBad (gap_holds p k (drop 2 text)) (length (drop 2 text)) i → TrueOf p before code text next (BadGap i (get_or (drop 2 text) i 0))
  good_gap_lem : (k : Kind) → GapAfter before code k → gap_least p ≤ length (drop 2 text)
      → HoldBelow (gap_holds p k (drop 2 text)) (length (drop 2 text)) → TrueOf p before code text next GoodGap

-- Runs.

-- an input above 15
pub record Above (w : List ℕ) : Type 0 where
  pub place : ℕ
  pub within : place < length w
  pub above : 15 < get_or w place 0

-- Where the first mark's text ends: of what follows a run's first F F F F 0 0, it is all before the first place where a mark begins, and that
-- mark's code is next; or it is all, and finish is next.
pub record CutAt (u text : List ℕ) (next : Option ℕ) : Type 0 where
  pub rest : List ℕ
  pub whole : u ≡ text ++ rest
  pub next_there : code_at rest ≡ next
  pub no_mark_before : (i : ℕ) → i < length text → Begun (drop i u) → ⊥
  pub none_at_finish : next ≡ None → text ≡ u

-- a reason that is true of a run: of its first mark, by the mark's code, its text and the next mark's code
pub record TrueOfRun (p : Profile) (before : Option Kind) (w : List ℕ) (r : Reason) : Type 0 where
  pub text : List ℕ
  pub next : Option ℕ
  pub cut : CutAt (drop 6 w) text next
  pub true_of : TrueOf p before (pair_at w 6) text next r

-- what is answered to a profile number, a kind number and a run: a refusal, each exactly if none of those above it applies; or else a reason
-- that is true of the run
pub data Explains (n k : ℕ) (w : List ℕ) : Reason → Type 0 where
  no_profile : ((p : Profile) → n ≡ profile_number p → ⊥) → Explains n k w (Refused (record { 0 = bad_state }))
  no_kind : (p : Profile) → n ≡ profile_number p → last_kind < k → Explains n k w (Refused (record { 0 = bad_kind }))
  no_nibble : (p : Profile) → n ≡ profile_number p → k ≤ last_kind → Above w → Explains n k w (Refused (record { 0 = not_a_nibble }))
  no_mark : (p : Profile) → n ≡ profile_number p → k ≤ last_kind → (Above w → ⊥) → (Begun w → ⊥) → Explains n k w (Refused (record { 0 = no_mark_first }))
  because : (p : Profile) → n ≡ profile_number p → k ≤ last_kind → (Above w → ⊥) → Begun w → {r : Reason} → TrueOfRun p (kind_numbered k) w r → Explains n k w r
