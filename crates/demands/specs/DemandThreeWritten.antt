-- Demand 3 over what the writer leaves: a clean stream is what its calls wrote, one after another. Definitions only.
use Rattle.std.specs.Prelude.{◌≡◌, List, [], ◌∷◌, ◌++◌, ℕ, ◌≤◌, length, take, drop}
use Rattle.lent_buffer.specs.Filled.{used}
use Rattle.profile.specs.declared.Profile.{Profile}
use Rattle.stream.specs.Written.{Sent}
use Rattle.reader.specs.Reader.{fresh_reader}
use Rattle.writer.specs.WriterTable.{write_sent}
use Rattle.recovery.specs.Calls.{DemandThree}
use Rattle.refinement.specs.ReaderCalls.{reader_call}
use Rattle.refinement.specs.Runs.{RunCall, runs_taken, all_one_by_one, FinishLastRun, SameAsFeeds}

-- the nibbles that calls of the writer wrote, one after another: each was given a line of the profile p and some room, and accepted it
pub data WroteAll (p : Profile) : List Sent → List ℕ → Type 0 where
  wrote_none : WroteAll p [] []
  and_wrote : {s : Sent} {ss : List Sent} {w c : List ℕ} (room n : ℕ) → write_sent p s room ≡ used n w → WroteAll p ss c → WroteAll p (s ∷ ss) (w ++ c)

-- demand 3 of a fresh reader of the profile p: whatever the writer wrote of the lines ss, whatever stretch of it, from the place i up to the place
-- j, is replaced by whatever nibbles, and whatever list of calls takes the outcome, runs and refused calls among them. Such a list does what its
-- calls one by one do, and of those demand 3 holds
abbrev pub MeetsWritten : Profile → Type 0
MeetsWritten p =
    (ss : List Sent) (c : List ℕ)
    → WroteAll p ss c
    → (i j : ℕ)
    → i ≤ j
    → j ≤ length c
    → (new : List ℕ) (cs : List RunCall)
    → FinishLastRun cs
    → runs_taken (fresh_reader p) cs ≡ take i c ++ (new ++ drop j c)
    → SameAsFeeds p (fresh_reader p) cs × DemandThree reader_call p (fresh_reader p) ss i j new (all_one_by_one (fresh_reader p) cs)
