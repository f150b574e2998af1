-- A capture's answers at once: their lines, their refusals, the repairs of their codes and their periods.
use Rattle.std.specs.Prelude.{◌≡◌, Bool, true, false, cond, List, [], ◌∷◌, ◌++◌, ℕ, ◌<◌, min, max, eqb, get_or}
use Rattle.std.proofs.Math.Option.{Option, none, some}
use Rattle.refusal.specs.Refusal.{end_without_line}
use Rattle.counts.specs.Counts.{counting}
use Rattle.line_code.specs.declared.Repair.{Repair}
use Rattle.line_code.specs.declared.Repair.TheVariants.{Clean, Bit}
use Rattle.period.specs.declared.Nibbles.{Nibbles}
use Rattle.period.specs.Period.{rate_of}
use Rattle.stream.specs.declared.Answer.{Answer}
use Rattle.stream.specs.declared.Answer.TheVariants.{Nothing, Line, Gap, Refused}
use Rattle.stream.specs.Answers.{is_line_answer}
use Rattle.signal_tally.specs.declared.First.{First}
use Rattle.signal_tally.specs.declared.First.TheVariants.{Unseen, InsideLine, Other}
use Rattle.signal_tally.specs.declared.Signal.{Signal}
use Rattle.signal_tally.specs.Signal.{refusals, code_width, fresh_signal, take_of, is_cut, close_of}

-- the signal after some answers; and of a whole capture, by its answers and finish's
abbrev pub signalled : Signal → List Answer → Signal
signalled s [] = s
signalled s (a ∷ w) = signalled (take_of s a) w

-- the signal of a whole capture
abbrev pub capture_signal : List Answer → Answer → Signal
capture_signal w last = close_of (signalled fresh_signal w) last

-- the answers of a whole capture, but for finish's where the end cut off a line or a gap
abbrev pub answers_of : List Answer → Answer → List Answer
answers_of w last = w ++ cond (is_cut last) [] (last ∷ [])

-- the same without a first mark that is an end of line
abbrev pub from_start : List Answer → List Answer
from_start [] = []
from_start (Nothing ∷ w) = from_start w
from_start (Line f ∷ w) = Line f ∷ w
from_start (Gap g ∷ w) = Gap g ∷ w
from_start (Refused r ∷ w) = cond (eqb r.0 end_without_line) w (Refused r ∷ w)

-- a refused mark with this number
abbrev pub is_refusal : ℕ → Answer → Bool
is_refusal n Nothing = false
is_refusal n (Line f) = false
is_refusal n (Gap g) = false
is_refusal n (Refused r) = eqb r.0 n

-- what was repaired of each line's two codes
abbrev pub repairs : List Answer → List Repair
repairs [] = []
repairs (Nothing ∷ w) = repairs w
repairs (Line f ∷ w) = f.start ∷ f.end ∷ repairs w
repairs (Gap g ∷ w) = repairs w
repairs (Refused r ∷ w) = repairs w

-- a repair of this bit
abbrev pub is_bit_numbered : ℕ → Repair → Bool
is_bit_numbered i Clean = false
is_bit_numbered i (Bit j) = eqb j i

-- the periods that gaps carry: 0 is none
abbrev pub carried : Nibbles → List Nibbles
carried n = cond (eqb n.0 0) [] (n ∷ [])

-- the periods of good gaps, in order
abbrev pub periods : List Answer → List Nibbles
periods [] = []
periods (Nothing ∷ w) = periods w
periods (Line f ∷ w) = periods w
periods (Gap g ∷ w) = carried g.period ++ periods w
periods (Refused r ∷ w) = periods w

-- a period that is named so many frames a second; one that is not named
abbrev pub is_rate : ℕ → Option ℕ → Bool
is_rate r none = false
is_rate r (some q) = eqb q r

-- a period of this many frames a second
abbrev pub is_at : ℕ → Nibbles → Bool
is_at r n = is_rate r (rate_of n)

-- a rate without a name
abbrev pub is_unnamed : Option ℕ → Bool
is_unnamed none = true
is_unnamed (some q) = false

-- a period without a name
abbrev pub is_other : Nibbles → Bool
is_other n = is_unnamed (rate_of n)

-- those that are not named, in nibbles
abbrev pub other_periods : List Nibbles → List ℕ
other_periods [] = []
other_periods (n ∷ ns) = cond (is_other n) (n.0 ∷ other_periods ns) (other_periods ns)

-- the least and the greatest of some numbers, 0 where there are none
abbrev pub least_of : List ℕ → ℕ
least_of [] = 0
least_of (n ∷ []) = n
least_of (n ∷ m ∷ ns) = min n (least_of (m ∷ ns))

-- the greatest of numbers
abbrev pub greatest_of : List ℕ → ℕ
greatest_of [] = 0
greatest_of (n ∷ ns) = max n (greatest_of ns)

-- the first mark's answer says whether the capture began inside a line: it is an end of line without a line
abbrev pub first_of : List Answer → First
first_of [] = Unseen
first_of (Nothing ∷ w) = first_of w
first_of (Line f ∷ w) = Other
first_of (Gap g ∷ w) = Other
first_of (Refused r ∷ w) = cond (eqb r.0 end_without_line) InsideLine Other

-- The counts of a capture, and the least and the greatest of its other periods, by its answers and finish's, all at once.
pub record CountsAnswers (w : List Answer) (last : Answer) : Type 0 where
  pub first : (capture_signal w last).first ≡ first_of (w ++ (last ∷ []))
  pub lines : (capture_signal w last).lines ≡ counting is_line_answer 0 (answers_of w last)
  pub refused : (n : ℕ) → n < refusals → get_or (capture_signal w last).refused n 0 ≡ counting (is_refusal n) 0 (from_start (answers_of w last))
  pub repaired : (i : ℕ) → i < code_width → get_or (capture_signal w last).repaired i 0 ≡ counting (is_bit_numbered i) 0 (repairs (answers_of w last))
  pub thirty : (capture_signal w last).spacing.thirty ≡ counting (is_at 30) 0 (periods (answers_of w last))
  pub twentyfive : (capture_signal w last).spacing.twentyfive ≡ counting (is_at 25) 0 (periods (answers_of w last))
  pub others : (capture_signal w last).spacing.others ≡ counting is_other 0 (periods (answers_of w last))
  pub least : (capture_signal w last).spacing.least ≡ least_of (other_periods (periods (answers_of w last)))
  pub greatest : (capture_signal w last).spacing.greatest ≡ greatest_of (other_periods (periods (answers_of w last)))
