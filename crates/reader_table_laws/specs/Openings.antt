-- The calls of one opening in a history, and demand 3 over them (02, A12): definitions only. They are the opener's feeds, runs and finishes of
-- the place from the opening on, up to its finish or close.
use Rattle.std.specs.Prelude.{◌≡◌, Bool, false, ◌&&◌, ◌||◌, cond, List, [], ◌∷◌, ◌++◌, map, ℕ, ◌+◌, ◌≤◌, eqb, length, take}
use Rattle.profile.specs.declared.Profile.{Profile}
use Rattle.stream.specs.Answers.{outcome_of}
use Rattle.stream.specs.Written.{Sent, AllWritable, stream}
use Rattle.reader.specs.declared.Reader.{Reader}
use Rattle.reader.specs.Reader.{fresh_reader}
use Rattle.recovery.specs.Calls.{feed, done, taken_by, changed, ended_by, lines_from, start_after, as_sent, gap_as_sent, closed_by, closed, mark_nibbles, Collector, line_collector, gap_collector, DemandThree}
use Rattle.refinement.specs.ReaderCalls.{reader_call}
use Rattle.refinement.specs.Runs.{RunCall, run, one, run_result, run_collects, all_one_by_one, SameAsFeeds}
use Rattle.reader_table.specs.declared.ReaderTable.{ReaderTable}
use Rattle.reader_table.specs.Table.{run_taken}
use Rattle.reader_table_laws.specs.History.{TableRequest, to_open, to_read, to_close, TableCall, TableReply, open_reply, call_reply, TableServed, serve, table_after}

-- x and what comes later; a finish is the last
abbrev pub and_on : {A : Type 0} → RunCall → A → List A → List A
and_on (run w buffer) x later = x ∷ later
and_on (one (feed n buffer)) x later = x ∷ later
and_on (one done) x later = x ∷ []

-- the calls of the place i
abbrev pub calls_by : ℕ → TableRequest → List RunCall → List RunCall
calls_by i (to_open n) later = later
calls_by i (to_read j c) later = cond (eqb j i) (and_on c c later) later
calls_by i (to_close j) later = cond (eqb j i) [] later

-- one technician's calls of one place, up to its finish or close
abbrev pub calls_of : ℕ → ℕ → List TableCall → List RunCall
calls_of who i [] = []
calls_of who i (c ∷ h) = cond (eqb c.who who) (calls_by i c.request (calls_of who i h)) (calls_of who i h)

-- what the table told to these same calls
abbrev pub told_by : ℕ → TableRequest → TableReply → List TableReply → List TableReply
told_by i (to_open n) x later = later
told_by i (to_read j c) x later = cond (eqb j i) (and_on c x later) later
told_by i (to_close j) x later = cond (eqb j i) [] later

-- what they are told
abbrev pub told_of : ℕ → ℕ → ReaderTable → List TableCall → List TableReply
told_of who i t [] = []
told_of who i t (c ∷ h) =
    let s : TableServed = serve t c.who c.request in
    cond (eqb c.who who) (told_by i c.request s.told (told_of who i s.table h)) (told_of who i s.table h)

-- what a reader of one's own tells to calls
abbrev pub reader_told : Reader → List RunCall → List TableReply
reader_told r [] = []
reader_told r (c ∷ cs) = call_reply (run_result r c).answer (run_taken r c) (run_result r c).buffer ∷ reader_told (run_result r c).reader cs

-- The nibbles that calls took, by what they were told.

-- the nibbles that a call takes, by its reply
abbrev pub nibbles_by : RunCall → TableReply → List ℕ → List ℕ
nibbles_by (run w buffer) (call_reply a n after) later = take n w ++ later
nibbles_by (one c) (call_reply a n after) later = taken_by c a later
nibbles_by c (open_reply o) later = later

-- the nibbles that calls take, by their replies
abbrev pub nibbles_in : List RunCall → List TableReply → List ℕ
nibbles_in [] ts = []
nibbles_in (c ∷ cs) [] = []
nibbles_in (c ∷ cs) (x ∷ ts) = nibbles_by c x (nibbles_in cs ts)

-- the nibbles that the place took
abbrev pub nibbles_of : ℕ → ℕ → ReaderTable → List TableCall → List ℕ
nibbles_of who i t h = nibbles_in (calls_of who i h) (told_of who i t h)

-- What is collected of calls, by what they were told.

-- what is collected of a reply
abbrev pub reply_collects : {A : Type 0} → Collector A → Profile → RunCall → TableReply → List A
reply_collects k p c (open_reply o) = []
reply_collects k p c (call_reply a n buffer) = run_collects k c (outcome_of p a buffer)

-- what is collected of replies
abbrev pub told_collected : {A : Type 0} → Collector A → Profile → List RunCall → List TableReply → List A
told_collected k p [] ts = []
told_collected k p (c ∷ cs) [] = []
told_collected k p (c ∷ cs) (x ∷ ts) = reply_collects k p c x ++ told_collected k p cs ts

-- of the calls of the place: their lines, or their good gaps
abbrev pub collected_of : {A : Type 0} → Collector A → Profile → ℕ → ℕ → ReaderTable → List TableCall → List A
collected_of k p who i t h = told_collected k p (calls_of who i h) (told_of who i t h)

-- A history in two parts.

-- whether the opening has its finish or close in this part
abbrev pub ends_by : ℕ → TableRequest → Bool
ends_by i (to_open n) = false
ends_by i (to_read j (run w buffer)) = false
ends_by i (to_read j (one (feed n buffer))) = false
ends_by i (to_read j (one done)) = eqb j i
ends_by i (to_close j) = eqb j i

-- a finish or a close of the place is among calls
abbrev pub ends_in : ℕ → ℕ → List TableCall → Bool
ends_in who i [] = false
ends_in who i (c ∷ h) = (eqb c.who who && ends_by i c.request) || ends_in who i h

-- its calls in the second part, and what they are told
abbrev pub calls_after : ℕ → ℕ → List TableCall → List TableCall → List RunCall
calls_after who i first rest = cond (ends_in who i first) [] (calls_of who i rest)

-- what is told after earlier calls of the same opening
abbrev pub told_after : ℕ → ℕ → ReaderTable → List TableCall → List TableCall → List TableReply
told_after who i t first rest = cond (ends_in who i first) [] (told_of who i (table_after t first) rest)

-- what is collected after earlier calls of the same opening
abbrev pub collected_after : {A : Type 0} → Collector A → Profile → ℕ → ℕ → ReaderTable → List TableCall → List TableCall → List A
collected_after k p who i t first rest = told_collected k p (calls_after who i first rest) (told_after who i t first rest)

-- Demand 3.

-- what demand 3 says of an opening in the history h, from the table t that it left, with the stretch from the place a up to the place b
pub record OpeningDemandThree (p : Profile) (who i : ℕ) (t : ReaderTable) (ss : List Sent) (a b : ℕ) (new : List ℕ) (h : List TableCall) : Type 0 where
  -- its calls are told what a reader of one's own would tell them, which does what the same calls one by one do, and of those demand 3 holds
  pub own_reader : told_of who i t h ≡ reader_told (fresh_reader p) (calls_of who i h)
  pub one_by_one : SameAsFeeds p (fresh_reader p) (calls_of who i h)
  pub demand_three : DemandThree reader_call p (fresh_reader p) ss a b new (all_one_by_one (fresh_reader p) (calls_of who i h))
  -- and so, where the history has two parts: if the first takes the nibbles before the stretch, its lines are those whose end code lies
  -- wholly before it
  pub lines_before : (first rest : List TableCall) → first ++ rest ≡ h → length (nibbles_of who i t first) ≡ a
      → collected_of line_collector p who i t first ≡ map as_sent (ended_by a 0 ss)
  -- if it takes those before the first line start after the stretch, the lines of the second are those sent from there on
  pub lines_after : (first rest : List TableCall) → first ++ rest ≡ h → length (nibbles_of who i t first) ≡ start_after ss a b new
      → collected_after line_collector p who i t first rest ≡ map as_sent (lines_from b 0 ss)
  -- the good gaps of the first part, with their periods, are those of the lines that lie wholly before the stretch, through the code of the
  -- mark after the gap
  pub periods_before : (first rest : List TableCall) → first ++ rest ≡ h → length (nibbles_of who i t first) ≡ a
      → collected_of gap_collector p who i t first ≡ map gap_as_sent (closed_by a 0 ss)
  -- and if the first takes the mark of that line start too, the good gaps of the second are those of the lines from there on that have a mark
  -- after them
  pub periods_after : (first rest : List TableCall) → first ++ rest ≡ h → length (nibbles_of who i t first) ≡ start_after ss a b new + mark_nibbles
      → collected_after gap_collector p who i t first rest ≡ map gap_as_sent (closed (lines_from b 0 ss))

-- demand 3 of an opening that left the table t: for every clean stream, every stretch and what stands in its place, and every history from
-- there on in which the nibbles that the place took, up to its finish or close, are the changed stream
abbrev pub OpeningMeetsDemandThree : Profile → ℕ → ℕ → ReaderTable → Type 0
OpeningMeetsDemandThree p who i t =
    (ss : List Sent)
    → AllWritable p ss
    → (a b : ℕ)
    → a ≤ b
    → b ≤ length (stream ss)
    → (new : List ℕ) (h : List TableCall)
    → nibbles_of who i t h ≡ changed ss a b new
    → OpeningDemandThree p who i t ss a b new h
