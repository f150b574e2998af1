-- Many stretches of what the writer left, over the reader's own calls. Definitions only.
use Rattle.std.specs.Prelude.{◌≡◌, List, ℕ}
use Rattle.profile.specs.declared.Profile.{Profile}
use Rattle.stream.specs.Written.{Sent}
use Rattle.reader.specs.Reader.{fresh_reader}
use Rattle.refinement.specs.Runs.{RunCall, runs_taken, FinishLastRun}
use Rattle.stretch_laws.specs.Stretches.{Segment, clean_of, changed_of, StretchesRead}
use Rattle.demands.specs.DemandThreeWritten.{WroteAll}

-- of a fresh reader of the profile p: whatever the writer wrote of the lines ss, whatever stretches of it are replaced by whatever nibbles, and whatever
-- list of calls takes the outcome, runs and refused calls among them, and finish last or not at all
abbrev pub ReadsWrittenStretches : Profile → Type 0
ReadsWrittenStretches p =
    (ss : List Sent) (c : List ℕ)
    → WroteAll p ss c
    → (gs : List Segment)
    → clean_of gs ≡ c
    → (cs : List RunCall)
    → FinishLastRun cs
    → runs_taken (fresh_reader p) cs ≡ changed_of gs
    → StretchesRead p (fresh_reader p) ss gs cs
