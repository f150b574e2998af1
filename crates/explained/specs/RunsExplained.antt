-- What calls with runs hand out, and a reader explained over them: all later runs answered as some nibbles fed to a fresh reader would make it.
-- Definitions only.
use Rattle.std.specs.Prelude.{◌≡◌, List, [], ◌∷◌, ℕ, ◌≤◌, length}
use Rattle.profile.specs.Profile.{body_length}
use Rattle.stream.specs.declared.Answer.{Answer}
use Rattle.stream.specs.Nibbles.{AllNibbles}
use Rattle.reader.specs.declared.Reader.{Reader}
use Rattle.reader.specs.Reader.{fresh_reader}
use Rattle.run.specs.Run.{run_of}
use Rattle.refinement.specs.Refine.{fed_reader}
use Rattle.refinement.specs.Runs.{RunCall, run, one, run_result}

-- a call's answer, the buffer lent to it as it is then, and how many nibbles a run says it took (0 of a single call)
pub record RunOut : Type 0 where
  pub answer : Answer
  pub buffer : List ℕ
  pub count : ℕ

-- that count
abbrev pub run_count : Reader → RunCall → ℕ
run_count r (run w buffer) = (run_of r w (length buffer)).taken
run_count r (one c) = 0

-- of each call, which gets the reader that the call before returned
abbrev pub run_outs : Reader → List RunCall → List RunOut
run_outs r [] = []
run_outs r (c ∷ cs) = record { answer = (run_result r c).answer; buffer = (run_result r c).buffer; count = run_count r c } ∷ run_outs (run_result r c).reader cs

-- nibbles that, fed to a fresh reader of the same profile (each with a buffer long enough), lead to a reader that answers all later calls, runs
-- among them, alike
pub record RunsExplained (r : Reader) : Type 0 where
  pub nibbles : List ℕ
  pub small : AllNibbles nibbles
  pub same_later : (room : ℕ → ℕ) → ((k : ℕ) → body_length r.head.profile ≤ room k) → (cs : List RunCall)
      → run_outs r cs ≡ run_outs (fed_reader room (fresh_reader r.head.profile) nibbles) cs
