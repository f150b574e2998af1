-- Lists of calls that hold runs too (02, A5), and demand 3 over them: definitions only. A run counts as its nibbles up to its stop, fed one by
-- one with its buffer, and the input at which it stops, if there is one, as one call more.
use Rattle.std.specs.Prelude.{◌≡◌, Bool, ◌&&◌, cond, List, [], ◌∷◌, ◌++◌, map, ℕ, suc, ◌≤◌, eqb, leb, length, take}
use Rattle.refusal.specs.Refusal.{no_room}
use Rattle.profile.specs.declared.Profile.{Profile}
use Rattle.profile.specs.Profile.{body_length}
use Rattle.stream.specs.Answers.{Outcome, nothing, line, gap, refused, outcome_of, answer_for, buffer_after}
use Rattle.stream.specs.Written.{Sent, AllWritable, stream}
use Rattle.reader.specs.declared.Reader.{Reader}
use Rattle.reader_head.specs.Head.{passes}
use Rattle.run.specs.Run.{stop_place, run_of}
use Rattle.recovery.specs.Calls.{Call, feed, done, CallResult, taken_by, changed, Collector, collects, line_collector, gap_collector, on_run, on_taken, on_collected, on_lines, on_gaps, DemandThree}
use Rattle.refinement.specs.ReaderCalls.{reader_call}

-- a run of inputs with the buffer lent to it; or a call as before
pub data RunCall : Type 0 where
  run : List ℕ → List ℕ → RunCall
  one : Call → RunCall

-- what a call gives back
abbrev pub run_result : Reader → RunCall → CallResult Reader
run_result r (run w buffer) =
    record {
      reader = (run_of r w (length buffer)).reader;
      answer = answer_for (run_of r w (length buffer)).outcome;
      buffer = buffer_after (run_of r w (length buffer)).outcome buffer;
    }
run_result r (one c) = reader_call r c

-- the nibbles it takes, in front of those taken later
abbrev pub run_takes : Reader → RunCall → List ℕ → List ℕ
run_takes r (run w buffer) later = take (run_of r w (length buffer)).taken w ++ later
run_takes r (one c) later = taken_by c (reader_call r c).answer later

-- The whole list: each call gets the reader that the call before returned.

-- the reader after calls, runs among them
abbrev pub on_runs : Reader → List RunCall → Reader
on_runs r [] = r
on_runs r (c ∷ cs) = on_runs (run_result r c).reader cs

-- the nibbles taken, in order
abbrev pub runs_taken : Reader → List RunCall → List ℕ
runs_taken r [] = []
runs_taken r (c ∷ cs) = run_takes r c (runs_taken (run_result r c).reader cs)

-- what is collected, in order: a run is a call that feeds
abbrev pub run_collects : {A : Type 0} → Collector A → RunCall → Outcome → List A
run_collects k (run w buffer) o = k.fed o
run_collects k (one c) o = collects k c o

-- what is collected of calls, runs among them
abbrev pub runs_collected : {A : Type 0} → Collector A → Profile → Reader → List RunCall → List A
runs_collected k p r [] = []
runs_collected k p r (c ∷ cs) =
    run_collects k c (outcome_of p (run_result r c).answer (run_result r c).buffer) ++ runs_collected k p (run_result r c).reader cs

-- every answer: an outcome that is neither nothing nor 12
abbrev pub answer_in : Outcome → List Outcome
answer_in nothing = []
answer_in (line f body) = line f body ∷ []
answer_in (gap g) = gap g ∷ []
answer_in (refused n) = cond (eqb n no_room) [] (refused n ∷ [])

-- every answer is collected
abbrev pub answer_collector : Collector Outcome
answer_collector = record { fed = answer_in; finished = answer_in }

-- One by one.

-- inputs fed one by one, each with the same buffer
abbrev pub feeds : List ℕ → List ℕ → List Call
feeds buffer w = map (λ n. feed n buffer) w

-- a run that is refused neither 11 nor 12
abbrev pub starts : Reader → ℕ → Bool
starts r room = passes r.head && leb (body_length r.head.profile) room

-- the calls that a call counts as
abbrev pub one_by_one : Reader → RunCall → List Call
one_by_one r (run w buffer) = cond (starts r (length buffer)) (feeds buffer (take (suc (stop_place r w)) w)) []
one_by_one r (one c) = c ∷ []

-- calls with each run taken apart
abbrev pub all_one_by_one : Reader → List RunCall → List Call
all_one_by_one r [] = []
all_one_by_one r (c ∷ cs) = one_by_one r c ++ all_one_by_one (run_result r c).reader cs

-- Demand 3.

-- at most one finish, as the last call
pub data FinishLastRun : List RunCall → Type 0 where
  no_call : FinishLastRun []
  done_last : FinishLastRun (one done ∷ [])
  feed_first : {n : ℕ} {buffer : List ℕ} {cs : List RunCall} → FinishLastRun cs → FinishLastRun (one (feed n buffer) ∷ cs)
  run_first : {w : List ℕ} {buffer : List ℕ} {cs : List RunCall} → FinishLastRun cs → FinishLastRun (run w buffer ∷ cs)

-- a list with runs does what its calls one by one do: it leaves the same reader and takes the same nibbles; and the same answers come out,
-- among them the same lines, and the same good gaps with their periods
pub record SameAsFeeds (p : Profile) (r : Reader) (cs : List RunCall) : Type 0 where
  pub same_reader : on_runs r cs ≡ on_run reader_call r (all_one_by_one r cs)
  pub same_taken : runs_taken r cs ≡ on_taken reader_call r (all_one_by_one r cs)
  pub same_answers : runs_collected answer_collector p r cs ≡ on_collected reader_call answer_collector p r (all_one_by_one r cs)
  pub same_lines : runs_collected line_collector p r cs ≡ on_lines reader_call p r (all_one_by_one r cs)
  pub same_gaps : runs_collected gap_collector p r cs ≡ on_gaps reader_call p r (all_one_by_one r cs)

-- demand 3 of the reader r over lists with runs: where they take the changed stream, they do what their calls one by one do, and of those
-- demand 3 holds
abbrev pub RunsMeetDemandThree : Profile → Reader → Type 0
RunsMeetDemandThree p r =
    (ss : List Sent)
    → AllWritable p ss
    → (i j : ℕ)
    → i ≤ j
    → j ≤ length (stream ss)
    → (new : List ℕ) (cs : List RunCall)
    → FinishLastRun cs
    → runs_taken r cs ≡ changed ss i j new
    → SameAsFeeds p r cs × DemandThree reader_call p r ss i j new (all_one_by_one r cs)
