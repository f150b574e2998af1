-- Why a mark is answered as it is (02, A9): the reason, of a profile, the kind of the mark before, and a run that begins with the mark.
-- A text is the nibbles from the mark's code up to the next mark, oldest first.
use Rattle.std.specs.Prelude.{Bool, true, false, cond, List, [], ◌∷◌, ℕ, suc, ◌+◌, ◌*◌, eqb, leb, length, take, drop, get_or, None, Option as Optional, Some}
use Rattle.std.proofs.Math.Option.{Option, none, some}
use Rattle.refusal.specs.Refusal.{not_a_nibble, bad_state, bad_kind, no_mark_first}
use Rattle.line_code.specs.declared.Kind.{Kind}
use Rattle.line_code.specs.declared.Kind.TheVariants.{BL, BK, VL, SOF, EOF}
use Rattle.line_code.specs.declared.Meaning.{Meaning}
use Rattle.line_code.specs.declared.Meaning.TheVariants.{EndOfLine, Line, ReservedEC, ReservedF1}
use Rattle.line_code.specs.declared.Reading.{Reading}
use Rattle.line_code.specs.declared.Reading.TheVariants.{Says, Damaged}
use Rattle.line_code.specs.LineCode.{kind_numbered, reading_of, is_end}
use Rattle.line_number.specs.LineNumber.{number_good}
use Rattle.profile.specs.declared.Profile.{Profile}
use Rattle.profile.specs.declared.Profile.TheVariants.{VV5404, VV5300}
use Rattle.profile.specs.declared.Rule.{Rule}
use Rattle.profile.specs.declared.Rule.TheVariants.{Filler, Pixel}
use Rattle.profile.specs.Profile.{profile_numbered}
use Rattle.profile.specs.Layout.{allows, rules}
use Rattle.stream.specs.Answers.{line_nibbles}
use Rattle.stream.specs.Nibbles.{nibbles_only}
use Rattle.stream.specs.Stream.{strip}
use Rattle.reason.specs.declared.Reason.{Reason}
use Rattle.reason.specs.declared.Reason.TheVariants.{GoodLine, GoodGap, DamagedCode, ReservedCode, UnfinishedLine, WrongLength, BadNumber, BadBody, NoEndOfLine, EndWithoutLine, BadGap, ShortGap, Refused}
use Rattle.reason.specs.Sums.{failed_sums}

-- Where marks begin.

-- F F F F 0 0, oldest first
abbrev pub opener : List ℕ
opener = 15 ∷ 15 ∷ 15 ∷ 15 ∷ 0 ∷ 0 ∷ []

-- the code after F F F F 0 0, if two nibbles follow
abbrev pub code_after : Option (List ℕ) → Optional ℕ
code_after none = None
code_after (some []) = None
code_after (some (x ∷ [])) = None
code_after (some (x ∷ y ∷ w)) = Some (16 * x + y)

-- the code of the mark that nibbles begin with, if they do
unfoldable pub code_at : List ℕ → Optional ℕ
code_at u = code_after (strip opener u)

-- another mark follows
abbrev pub is_code : Optional ℕ → Bool
is_code None = false
is_code (Some c) = true

-- whether nibbles begin with a mark
abbrev pub begins_mark : List ℕ → Bool
begins_mark u = is_code (code_at u)

-- how many nibbles stand before the first place where a mark begins: all of them, if there is none
abbrev pub next_mark : List ℕ → ℕ
next_mark [] = 0
next_mark (n ∷ u) = cond (begins_mark (n ∷ u)) 0 (suc (next_mark u))

-- Bytes of a text.

-- the byte of the nibbles at a place and the next
abbrev pub pair_at : List ℕ → ℕ → ℕ
pair_at t i = 16 * get_or t i 0 + get_or t (i + 1) 0

-- nibbles as bytes, both oldest first; a nibble left over is dropped
abbrev pub bytes_in : List ℕ → List ℕ
bytes_in [] = []
bytes_in (h ∷ []) = []
bytes_in (h ∷ l ∷ t) = (16 * h + l) ∷ bytes_in t

-- Lines.

-- 5 and the first bad number byte, or else the reason given
unfoldable pub number_reason : ℕ → ℕ → Reason → Reason
number_reason a b r = cond (number_good a) (cond (number_good b) r (BadNumber 1 b)) (BadNumber 0 a)

-- 6 and the first byte that its rule doesn't allow, from a place on; or else the reason given
abbrev pub body_reason : List Rule → List ℕ → ℕ → Reason → Reason
body_reason [] bs i r = r
body_reason (q ∷ qs) [] i r = r
body_reason (q ∷ qs) (b ∷ bs) i r = cond (allows q b) (body_reason qs bs (suc i) r) (BadBody i b)

-- 7 and the code that came, or a good line
unfoldable pub next_reason : ℕ → Reason
next_reason c = cond (is_end (reading_of c)) GoodLine (NoEndOfLine c)

-- a text of the right length: by its body and the next mark's code; by its number first
abbrev pub line_from_body : Profile → Kind → List ℕ → ℕ → Reason
line_from_body p k t c = body_reason (rules p k) (bytes_in (drop 6 t)) 0 (next_reason c)

-- of a line of the right length: its number, then its body
abbrev pub line_from_number : Profile → Kind → List ℕ → ℕ → Reason
line_from_number p k t c = number_reason (pair_at t 2) (pair_at t 4) (line_from_body p k t c)

-- 3 at finish; 4, or by number, body and the next mark's code
unfoldable pub line_reason : Profile → Kind → List ℕ → Optional ℕ → Reason
line_reason p k t None = UnfinishedLine
line_reason p k t (Some c) = cond (eqb (length t) (line_nibbles p)) (line_from_number p k t c) (WrongLength (length t) (line_nibbles p))

-- Gaps: what follows the end code's two nibbles.

-- what each of the two bytes may be after a line of a kind, in profile 1
abbrev pub gap_rule : Kind → Rule
gap_rule BL = Filler
gap_rule BK = Filler
gap_rule VL = Pixel
gap_rule SOF = Filler
gap_rule EOF = Filler

-- 9 and the first nibble other than F, from a place on; or a good gap
abbrev pub stray_reason : List ℕ → ℕ → Reason
stray_reason [] i = GoodGap
stray_reason (n ∷ w) i = cond (eqb n 15) (stray_reason w (suc i)) (BadGap i n)

-- profile 1: two bytes, then nothing but F. A bad byte counts by its first nibble, a gap under two bytes only by its length
unfoldable pub two_bytes_reason : Kind → List ℕ → Reason
two_bytes_reason k g =
    cond (leb 4 (length g))
    (cond (allows (gap_rule k) (pair_at g 0))
    (cond (allows (gap_rule k) (pair_at g 2)) (stray_reason (drop 4 g) 4) (BadGap 2 (get_or g 2 0)))
    (BadGap 0 (get_or g 0 0)))
    (ShortGap (length g))

-- profile 0: nothing but F
abbrev pub gap_reason : Profile → Kind → List ℕ → Reason
gap_reason VV5404 k g = stray_reason g 0
gap_reason VV5300 k g = two_bytes_reason k g

-- 8, or by the line kind of the mark before
abbrev pub end_mark_reason : Profile → Optional Kind → List ℕ → Reason
end_mark_reason p None g = EndWithoutLine
end_mark_reason p (Some k) g = gap_reason p k g

-- Any mark.

-- by what the mark's code means
abbrev pub meaning_reason : Profile → Optional Kind → Meaning → List ℕ → Optional ℕ → Reason
meaning_reason p before EndOfLine t next = end_mark_reason p before (drop 2 t)
meaning_reason p before (Line k) t next = line_reason p k t next
meaning_reason p before ReservedEC t next = ReservedCode
meaning_reason p before ReservedF1 t next = ReservedCode

-- by how the mark's code reads
abbrev pub reading_reason : Profile → Optional Kind → Reading → ℕ → List ℕ → Optional ℕ → Reason
reading_reason p before (Says m r) c t next = meaning_reason p before m t next
reading_reason p before Damaged c t next = DamagedCode c (failed_sums c)

-- the reason of a mark's answer: the line kind of the mark before it, its code byte, its text, and the next mark's code
unfoldable pub reason_of : Profile → Optional Kind → ℕ → List ℕ → Optional ℕ → Reason
reason_of p before c t next = reading_reason p before (reading_of c) c t next

-- Runs.

-- what follows the first mark's F F F F 0 0
abbrev pub after_opener : List ℕ → List ℕ
after_opener w = drop 6 w

-- the first mark's text, and the next mark's code: of what follows the F F F F 0 0
abbrev pub text_in : List ℕ → List ℕ
text_in u = take (next_mark u) u

-- what follows a mark's text: the next mark's code, or the end
abbrev pub next_in : List ℕ → Optional ℕ
next_in u = code_at (drop (next_mark u) u)

-- the reason of the first mark's answer
unfoldable pub first_reason : Profile → Optional Kind → List ℕ → Reason
first_reason p before u = reason_of p before (pair_at u 0) (text_in u) (next_in u)

-- the greatest kind number
abbrev pub last_kind : ℕ
last_kind = 5

-- 13, 10 and 36 come first, in this order
unfoldable pub run_reason : Profile → ℕ → List ℕ → Reason
run_reason p k w =
    cond (leb k last_kind)
    (cond (nibbles_only w) (cond (begins_mark w) (first_reason p (kind_numbered k) (after_opener w)) (Refused (record { 0 = no_mark_first }))) (Refused (record { 0 = not_a_nibble })))
    (Refused (record { 0 = bad_kind }))

-- by the profile that the number names; 11 for none
abbrev pub profile_reason : Optional Profile → ℕ → List ℕ → Reason
profile_reason None k w = Refused (record { 0 = bad_state })
profile_reason (Some p) k w = run_reason p k w

-- the answer: of a profile number, the number of the kind of the mark before, and the run
unfoldable pub explanation : ℕ → ℕ → List ℕ → Reason
explanation p k w = profile_reason (profile_numbered p) k w
