-- The answer of a mark (01, 'One answer for each mark'): from what the mark before was, its code, its text and the next mark's
-- code.
use Rattle.std.specs.Prelude.{Bool, true, false, ◌&&◌, ◌||◌, List, [], ◌∷◌, ◌++◌, ℕ, ◌+◌, ◌*◌, min, eqb, length, take, drop}
use Rattle.std.proofs.Math.Option.{Option, none, some}
use Rattle.refusal.specs.Refusal.{damaged_code, reserved_code, unfinished_line, wrong_length, bad_number, bad_body, no_end_of_line, end_without_line, bad_gap}
use Rattle.line_code.specs.declared.Kind.{Kind}
use Rattle.line_code.specs.declared.Meaning.{Meaning}
use Rattle.line_code.specs.declared.Meaning.TheVariants.{EndOfLine, Line, ReservedEC, ReservedF1}
use Rattle.line_code.specs.declared.Reading.{Reading}
use Rattle.line_code.specs.declared.Reading.TheVariants.{Says, Damaged}
use Rattle.line_code.specs.declared.Repair.{Repair}
use Rattle.line_code.specs.LineCode.{reading_of, is_end, repair_of, is_bit}
use Rattle.line_number.specs.LineNumber.{number_good, number_from}
use Rattle.profile.specs.declared.Profile.{Profile}
use Rattle.profile.specs.declared.Profile.TheVariants.{VV5404, VV5300}
use Rattle.profile.specs.Profile.{body_length, null_byte}
use Rattle.profile.specs.Layout.{rules, fits, gap_fits}
use Rattle.period.specs.Period.{most_nibbles}
use Rattle.stream.specs.declared.Before.{Before}
use Rattle.stream.specs.declared.Before.TheVariants.{NoLine, RefusedLine, HandedOut}
use Rattle.stream.specs.declared.LineFacts.{LineFacts}
use Rattle.stream.specs.declared.GapFacts.{GapFacts}
use Rattle.stream.specs.declared.Answer.{Answer}
use Rattle.stream.specs.declared.Answer.TheVariants as answer

-- what is said of a line: its kind, its number, and what was repaired of the code that starts it and of the code that ends it
abbrev pub facts : Kind → ℕ → Repair → Repair → LineFacts
facts k n start end = record { kind = k; number = n; start = start; end = end }

-- either code was repaired
abbrev pub either_repaired : LineFacts → Bool
either_repaired f = is_bit f.start || is_bit f.end

-- what an answer says: nothing yet; a line with what is said of it, and its body; a good gap with what is said of it; or a refusal with its
-- number
pub data Outcome : Type 0 where
  nothing : Outcome
  line : LineFacts → List ℕ → Outcome
  gap : GapFacts → Outcome
  refused : ℕ → Outcome

-- the paper's number and values of each case of the program's answer: a line's body is the front of the lent buffer
abbrev pub outcome_of : Profile → Answer → List ℕ → Outcome
outcome_of p answer.Nothing buffer = nothing
outcome_of p (answer.Line f) buffer = line f (take (body_length p) buffer)
outcome_of p (answer.Gap g) buffer = gap g
outcome_of p (answer.Refused r) buffer = refused r.0

-- the program's answer that says this
abbrev pub answer_for : Outcome → Answer
answer_for nothing = answer.Nothing
answer_for (line f body) = answer.Line f
answer_for (gap g) = answer.Gap g
answer_for (refused n) = answer.Refused (record { 0 = n })

-- the lent buffer afterwards: a line's body at its front, and the rest as it was
abbrev pub buffer_after : Outcome → List ℕ → List ℕ
buffer_after nothing buffer = buffer
buffer_after (line f body) buffer = body ++ drop (length body) buffer
buffer_after (gap g) buffer = buffer
buffer_after (refused n) buffer = buffer

-- whether an outcome, or the program's answer, hands out a line
abbrev pub is_line : Outcome → Bool
is_line nothing = false
is_line (line f body) = true
is_line (gap g) = false
is_line (refused n) = false

-- an answer is a line
abbrev pub is_line_answer : Answer → Bool
is_line_answer answer.Nothing = false
is_line_answer (answer.Line f) = true
is_line_answer (answer.Gap g) = false
is_line_answer (answer.Refused r) = false

-- whether the program answers at all: not where no mark's answer is due yet
abbrev pub is_answer : Answer → Bool
is_answer answer.Nothing = false
is_answer (answer.Line f) = true
is_answer (answer.Gap g) = true
is_answer (answer.Refused r) = true

-- a refusal where the test fails
unfoldable pub require : Bool → ℕ → Outcome → Outcome
require true n o = o
require false n o = refused n

-- Lines. A text is kept newest nibble first, so that feeding a nibble is putting it in front.

-- nibbles, newest first, as bytes, oldest first, in front of others: none where their count is odd
abbrev pub bytes_onto : List ℕ → List ℕ → Option (List ℕ)
bytes_onto [] bs = some bs
bytes_onto (low ∷ []) bs = none
bytes_onto (low ∷ high ∷ t) bs = bytes_onto t ((16 * high + low) ∷ bs)

-- 4 to 7, or the line: of the bytes of a text, and the reading of the next mark's code
abbrev pub line_from : Profile → Kind → Repair → Option (List ℕ) → Reading → Outcome
line_from p k r none next = refused wrong_length
line_from p k r (some []) next = refused wrong_length
line_from p k r (some (c ∷ [])) next = refused wrong_length
line_from p k r (some (c ∷ a ∷ [])) next = refused wrong_length
line_from p k r (some (c ∷ a ∷ b ∷ body)) next =
    require (eqb (length body) (body_length p)) wrong_length
    (require (number_good a && number_good b) bad_number
    (require (fits (rules p k) body) bad_body
    (require (is_end next) no_end_of_line (line (facts k (number_from a b) r (repair_of next)) body))))

-- 3 at finish, or by the next mark's code
abbrev pub line_answer : Profile → Kind → Repair → List ℕ → Option ℕ → Outcome
line_answer p k r t none = refused unfinished_line
line_answer p k r t (some next) = line_from p k r (bytes_onto t []) (reading_of next)

-- Gaps.

-- a good gap: its two bytes, and the period of its line in nibbles
unfoldable pub good_gap : ℕ → ℕ → ℕ → Outcome
good_gap n a b = gap (record { first = a; second = b; period = record { 0 = n } })

-- the nibbles of a line's text: code, two number bytes, body
abbrev pub line_nibbles : Profile → ℕ
line_nibbles p = 2 * body_length p + 6

-- F F F F 0 0 before each text
abbrev pub group_nibbles : ℕ
group_nibbles = 6

-- the period of the line before an end mark (A7), where the line was handed out and a mark closes the gap: from the line's first mark nibble
-- to the first nibble of that mark stand the line's F F F F 0 0 and text, the end mark's F F F F 0 0, and the end mark's text, of so many
-- nibbles. It is held at 65,535. (Periods.antt: these are the places in the stream.) Any other gap's is 0
unfoldable pub period_of : Profile → Before → ℕ → Option ℕ → ℕ
period_of p NoLine len next = 0
period_of p (RefusedLine k) len next = 0
period_of p (HandedOut k) len none = 0
period_of p (HandedOut k) len (some code) = min most_nibbles (group_nibbles + line_nibbles p + group_nibbles + len)

-- newest first to oldest first, in front of others
abbrev pub turned : List ℕ → List ℕ → List ℕ
turned [] w = w
turned (n ∷ t) w = turned t (n ∷ w)

-- nothing but F
abbrev pub all_f : List ℕ → Bool
all_f [] = true
all_f (n ∷ w) = eqb n 15 && all_f w

-- what follows the code's two nibbles
abbrev pub after_code : List ℕ → List ℕ
after_code [] = []
after_code (x ∷ []) = []
after_code (x ∷ y ∷ w) = w

-- profile 1: two bytes that may follow the kind, then nothing but F
abbrev pub two_bytes_then_f : Kind → ℕ → List ℕ → Outcome
two_bytes_then_f k n [] = refused bad_gap
two_bytes_then_f k n (h ∷ []) = refused bad_gap
two_bytes_then_f k n (h ∷ l ∷ []) = refused bad_gap
two_bytes_then_f k n (h ∷ l ∷ h₂ ∷ []) = refused bad_gap
two_bytes_then_f k n (h ∷ l ∷ h₂ ∷ l₂ ∷ w) =
    require (gap_fits VV5300 k (16 * h + l) (16 * h₂ + l₂) && all_f w) bad_gap (good_gap n (16 * h + l) (16 * h₂ + l₂))

-- 9, or the good gap: of the period, and what follows the end code, oldest first. Profile 0: nothing but F, however many; its two bytes are
-- told as FF FF
abbrev pub gap_from : Profile → Kind → ℕ → List ℕ → Outcome
gap_from VV5404 k n w = require (all_f w) bad_gap (good_gap n null_byte null_byte)
gap_from VV5300 k n w = two_bytes_then_f k n w

-- 8, or by the line kind of the mark before
abbrev pub gap_answer : Profile → Before → ℕ → List ℕ → Outcome
gap_answer p NoLine n t = refused end_without_line
gap_answer p (RefusedLine k) n t = gap_from p k n (after_code (turned t []))
gap_answer p (HandedOut k) n t = gap_from p k n (after_code (turned t []))

-- Any mark.

-- the next mark's code is end of line; false at finish
abbrev pub ends_at : Option ℕ → Bool
ends_at none = false
ends_at (some c) = is_end (reading_of c)

-- by what the code means
abbrev pub by_meaning : Profile → Before → Meaning → Repair → List ℕ → Option ℕ → Outcome
by_meaning p before EndOfLine r t next = gap_answer p before (period_of p before (length t) next) t
by_meaning p before (Line k) r t next = line_answer p k r t next
by_meaning p before ReservedEC r t next = refused reserved_code
by_meaning p before ReservedF1 r t next = refused reserved_code

-- by how the code reads
abbrev pub by_reading : Profile → Before → Reading → List ℕ → Option ℕ → Outcome
by_reading p before (Says m r) t next = by_meaning p before m r t next
by_reading p before Damaged t next = refused damaged_code

-- the one answer of a mark: what the mark before it was, its code byte, its text from the code on (newest first), and the next mark's code
-- byte, none at finish
unfoldable pub answer_of : Profile → Before → ℕ → List ℕ → Option ℕ → Outcome
answer_of p before code t next = by_reading p before (reading_of code) t next
