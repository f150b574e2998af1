-- Demand 2 as one claim: whatever lines the writer wrote, and whichever bits of their codes were flipped in what it wrote, every list of calls that
-- takes the outcome is told each line for itself. Definitions only.
use Rattle.std.specs.Prelude.{◌≡◌, Bool, cond, List, [], ◌∷◌, ◌++◌, map, ℕ, ◌*◌, ◌<◌, length, take, None, Some}
use Rattle.bits.specs.Bits.{flipped}
use Rattle.refusal.specs.Refusal.{damaged_code, no_end_of_line, end_without_line}
use Rattle.lent_buffer.specs.Filled.{used}
use Rattle.line_code.specs.declared.Kind.{Kind}
use Rattle.line_code.specs.declared.Meaning.{Meaning}
use Rattle.line_code.specs.LineCode.{clean_byte, reading_of, kind_of, kind_numbered}
use Rattle.profile.specs.declared.Profile.{Profile}
use Rattle.profile.specs.Profile.{profile_numbered}
use Rattle.stream.specs.Answers.{Outcome, refused}
use Rattle.stream.specs.Written.{Sent, mark_of}
use Rattle.reader.specs.Reader.{fresh_reader}
use Rattle.writer.specs.Writer.{sent}
use Rattle.writer.specs.WriterTable.{write_sent}
use Rattle.recovery.specs.CallAnswers.{mark_collector}
use Rattle.flip_laws.specs.Flips.{Flips, no_bit, two_bits, Arrived, with_flips, arrived_with, unflipped, closed_answers, flip_answers}
use Rattle.refinement.specs.Runs.{RunCall, runs_taken, runs_collected, FinishLastRun}
use Rattle.refinement.specs.RunAnswers.{runs_finish}

-- the answers that marks get over calls of a fresh reader
abbrev pub answers_to : Profile → List RunCall → List Outcome
answers_to p cs = runs_collected mark_collector p (fresh_reader p) cs

-- the nibbles that arrive, one line straight after another: of each line what a call of the writer wrote of it, given some room, with bits of its
-- codes flipped in those nibbles
pub data AllArrived (p : Profile) : List Arrived → List ℕ → Type 0 where
  none_arrived : AllArrived p [] []
  and_arrived : {a : Arrived} {later : List Arrived} {w v : List ℕ} (room n : ℕ) → write_sent p a.sent room ≡ used n w → AllArrived p later v
      → AllArrived p (a ∷ later) (with_flips p a w ++ v)

-- the nibbles v are read as these lines, whatever calls take them from a fresh reader on: singles and runs, refused ones anywhere among them,
-- and finish last or not at all
pub record ReadAs (p : Profile) (all : List Arrived) (v : List ℕ) : Type 0 where
  -- of v alone come the answers of each line, in order, the last gap at finish, and nothing else
  pub alone : (cs : List RunCall) → FinishLastRun cs → runs_taken (fresh_reader p) cs ≡ v → answers_to p cs ≡ flip_answers (runs_finish cs) all
  -- where a mark follows, whatever its code and whatever stands after it, the two answers of each line come first
  pub before_mark : (code : ℕ) (w : List ℕ) (cs : List RunCall) → FinishLastRun cs → runs_taken (fresh_reader p) cs ≡ v ++ (mark_of code ++ w)
      → take (2 * length all) (answers_to p cs) ≡ closed_answers all

-- demand 2 of the profile p
pub record DemandTwo (p : Profile) : Type 0 where
  -- lines come back as sent, in any list of them, each with the flipped bit of either code named
  pub lines_read : (all : List Arrived) (v : List ℕ) → AllArrived p all v → ReadAs p all v
  -- where two of the eight bits of any clean code are flipped, it is never a line kind
  pub two_flipped : (m : Meaning) (i j : ℕ) → i < 8 → j < 8 → (i ≡ j → ⊥) → kind_of (reading_of (flipped (flipped (clean_byte m) i) j)) ≡ None

-- One line, by the numbers that the writer was given.

-- the writer was given a known profile and kind, it says how many nibbles it wrote, and whichever bits of their codes are flipped they are read as
-- that line
pub record Accepted (profile kind number : ℕ) (body : List ℕ) (a b nulls n : ℕ) (w : List ℕ) : Type 0 where
  pub p : Profile
  pub k : Kind
  pub profile_is : profile_numbered profile ≡ Some p
  pub kind_is : kind_numbered kind ≡ Some k
  pub count_is : n ≡ length w
  pub reads_back : (start end : Flips) → let line : Arrived = arrived_with (sent k number body a b nulls) start end in ReadAs p (line ∷ []) (with_flips p line w)

-- Two flips in one code of one line s, and no other bit flipped in any line.

-- an end mark's answer, and those of the lines after it: where there are none, finish brings it
abbrev pub end_then : Bool → Outcome → List Arrived → List Outcome
end_then finished o [] = cond finished (o ∷ []) []
end_then finished o (next ∷ later) = o ∷ flip_answers finished (next ∷ later)

-- in its start code: 1 for it, then 8 for its end code, no line, and every other line and gap as sent
abbrev pub StartBeyondRepair : Profile → Type 0
StartBeyondRepair p =
    (before : List Sent) (s : Sent) (later : List Sent) (i j : ℕ) (l : i < 8) (k : j < 8) (d : i ≡ j → ⊥) (v : List ℕ)
    → AllArrived p (map unflipped before ++ (arrived_with s (two_bits i j l k d) no_bit ∷ map unflipped later)) v
    → (cs : List RunCall)
    → FinishLastRun cs
    → runs_taken (fresh_reader p) cs ≡ v
    → answers_to p cs ≡ closed_answers (map unflipped before) ++ (refused damaged_code ∷ end_then (runs_finish cs) (refused end_without_line) (map unflipped later))

-- in its end code: 7 for the line, then 1 for that code, no line, and every other line and gap as sent
abbrev pub EndBeyondRepair : Profile → Type 0
EndBeyondRepair p =
    (before : List Sent) (s : Sent) (later : List Sent) (i j : ℕ) (l : i < 8) (k : j < 8) (d : i ≡ j → ⊥) (v : List ℕ)
    → AllArrived p (map unflipped before ++ (arrived_with s no_bit (two_bits i j l k d) ∷ map unflipped later)) v
    → (cs : List RunCall)
    → FinishLastRun cs
    → runs_taken (fresh_reader p) cs ≡ v
    → answers_to p cs ≡ closed_answers (map unflipped before) ++ (refused no_end_of_line ∷ end_then (runs_finish cs) (refused damaged_code) (map unflipped later))
