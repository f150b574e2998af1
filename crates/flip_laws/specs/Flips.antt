-- Lines as written, one straight after another, with bits of their codes flipped on the way, and what their marks are answered (01, demand 2; 02, A8).
-- Definitions only.
use Rattle.std.specs.Prelude.{◌≡◌, Bool, cond, List, [], ◌∷◌, ℕ, zero, suc, ◌+◌, ◌-◌, ◌<◌, ltb, length}
use Rattle.std.proofs.Math.Option.{Option, none, some}
use Rattle.bits.specs.Bits.{flipped}
use Rattle.refusal.specs.Refusal.{damaged_code, no_end_of_line, end_without_line}
use Rattle.line_code.specs.declared.Repair.{Repair}
use Rattle.line_code.specs.declared.Repair.TheVariants.{Clean, Bit}
use Rattle.profile.specs.declared.Profile.{Profile}
use Rattle.stream.specs.Answers.{Outcome, refused, line_nibbles, group_nibbles}
use Rattle.stream.specs.Written.{Sent, written}
use Rattle.recovery.specs.CleanAnswers.{line_read, gap_read}

-- Flips in nibbles. A place is the count of nibbles before it.

-- the bits of a code byte that were flipped: none, one of the eight, or two different ones
pub data Flips : Type 0 where
  no_bit : Flips
  one_bit : (i : ℕ) → i < 8 → Flips
  two_bits : (i j : ℕ) → i < 8 → j < 8 → (i ≡ j → ⊥) → Flips

-- nibbles, with the bit of weight 2 ^ i of the one at the place n flipped
abbrev pub flip_nibble : ℕ → ℕ → List ℕ → List ℕ
flip_nibble n i [] = []
flip_nibble zero i (x ∷ w) = flipped x i ∷ w
flip_nibble (suc n) i (x ∷ w) = x ∷ flip_nibble n i w

-- with the bit i flipped of the byte whose two nibbles stand at the place n: bits 4 to 7 are in the first of them, bits 0 to 3 in the second
abbrev pub flip_bit : ℕ → ℕ → List ℕ → List ℕ
flip_bit n i w = cond (ltb i 4) (flip_nibble (n + 1) i w) (flip_nibble n (i - 4) w)

-- with these bits of that byte flipped
abbrev pub flip_bits : ℕ → Flips → List ℕ → List ℕ
flip_bits n no_bit w = w
flip_bits n (one_bit i l) w = flip_bit n i w
flip_bits n (two_bits i j l k d) w = flip_bit n j (flip_bit n i w)

-- the place of the code that starts a line as written: after F F F F 0 0
abbrev pub start_code_place : ℕ
start_code_place = group_nibbles

-- and of the code that ends it: after that mark's text and another F F F F 0 0
abbrev pub end_code_place : Profile → ℕ
end_code_place p = group_nibbles + line_nibbles p + group_nibbles

-- a line as it arrives: what was sent, and which bits of the code that starts it and of the code that ends it were flipped on the way
pub record Arrived : Type 0 where
  pub sent : Sent
  pub start : Flips
  pub end : Flips

-- the nibbles w that were written of it, with those bits flipped in them
abbrev pub with_flips : Profile → Arrived → List ℕ → List ℕ
with_flips p a w = flip_bits (end_code_place p) a.end (flip_bits start_code_place a.start w)

-- the line s with these bits of its start code and of its end code flipped
abbrev pub arrived_with : Sent → Flips → Flips → Arrived
arrived_with s start end = record { sent = s; start = start; end = end }

-- with none flipped
abbrev pub unflipped : Sent → Arrived
unflipped s = arrived_with s no_bit no_bit

-- Answers.

-- what is repaired of a code with these bits flipped: none where it is beyond repair
abbrev pub repair_by : Flips → Option Repair
repair_by no_bit = some Clean
repair_by (one_bit i l) = some (Bit i)
repair_by (two_bits i j l k d) = none

-- the answer of the mark that starts a line: 1 where its own code is beyond repair, 7 where the end code is; else the line, with what was repaired of
-- the two
abbrev pub line_by : Sent → Option Repair → Option Repair → Outcome
line_by s none end = refused damaged_code
line_by s (some r) none = refused no_end_of_line
line_by s (some r) (some q) = line_read s r q

-- the answer of the mark that ends it: 1 where its own code is beyond repair, 8 where only the start code is; else the gap, with this period
abbrev pub gap_by : Sent → Option Repair → Option Repair → ℕ → Outcome
gap_by s none none n = refused damaged_code
gap_by s (some r) none n = refused damaged_code
gap_by s none (some q) n = refused end_without_line
gap_by s (some r) (some q) n = gap_read s n

-- the two answers of a line that arrives
abbrev pub start_answer : Arrived → Outcome
start_answer a = line_by a.sent (repair_by a.start) (repair_by a.end)

-- the answer of a line's end mark, as the line arrived
abbrev pub end_answer : Arrived → ℕ → Outcome
end_answer a n = gap_by a.sent (repair_by a.start) (repair_by a.end) n

-- lines that a mark follows: two answers each, in order, and a line's period is its length as written
abbrev pub closed_answers : List Arrived → List Outcome
closed_answers [] = []
closed_answers (a ∷ later) = start_answer a ∷ end_answer a (length (written a.sent)) ∷ closed_answers later

-- lines that nothing follows: the same, but that the last end mark is answered by finish, where it comes, and then with no period
abbrev pub flip_answers : Bool → List Arrived → List Outcome
flip_answers finished [] = []
flip_answers finished (a ∷ []) = start_answer a ∷ cond finished (end_answer a 0 ∷ []) []
flip_answers finished (a ∷ next ∷ later) = start_answer a ∷ end_answer a (length (written a.sent)) ∷ flip_answers finished (next ∷ later)
