-- Demand 3 as a statement (01, 'Demand 3 over the whole list'), for a reader of any type: definitions only, in the order of 01's sentences.
-- DemandThree.antt proves it of the meaning of a stream, and carries it to every reader that answers alike.
use Rattle.std.specs.Prelude.{◌≡◌, Bool, false, ◌||◌, cond, List, [], ◌∷◌, ◌++◌, map, ℕ, ◌+◌, ◌-◌, ◌≤◌, eqb, leb, length, take, drop}
use Rattle.refusal.specs.Refusal.{not_a_nibble, no_room}
use Rattle.line_code.specs.declared.Kind.{Kind}
use Rattle.profile.specs.declared.Profile.{Profile}
use Rattle.profile.specs.Profile.{body_length}
use Rattle.stream.specs.declared.GapFacts.{GapFacts}
use Rattle.stream.specs.declared.Answer.{Answer}
use Rattle.stream.specs.declared.Answer.TheVariants as answers
use Rattle.stream.specs.Answers.{either_repaired, Outcome, nothing, line, gap, refused, outcome_of, answer_for, buffer_after}
use Rattle.stream.specs.Stream.{State, step, finish}
use Rattle.stream.specs.Written.{Sent, AllWritable, start_mark, content, end_mark, written, stream}

-- Calls.

-- a call feeds one nibble, and is lent a buffer of any length and contents; or it is finish
pub data Call : Type 0 where
  feed : ℕ → List ℕ → Call
  done : Call

-- at most one finish, as the last call
pub data FinishLast : List Call → Type 0 where
  no_call : FinishLast []
  done_last : FinishLast (done ∷ [])
  feed_first : {n : ℕ} {buffer : List ℕ} {cs : List Call} → FinishLast cs → FinishLast (feed n buffer ∷ cs)

-- what a call gives back: the reader, its answer, and the lent buffer as it is then (finish is lent none)
pub record CallResult (R : Type 0) : Type 0 where
  pub reader : R
  pub answer : Answer
  pub buffer : List ℕ

-- a feeding call answered 10 or 12 takes no nibble; every other takes the nibble it was given, whatever its answer. In front of the
-- nibbles taken later
abbrev pub takes : Answer → ℕ → List ℕ → List ℕ
takes answers.Nothing n w = n ∷ w
takes (answers.Line f) n w = n ∷ w
takes (answers.Gap g) n w = n ∷ w
takes (answers.Refused r) n w = cond (eqb r.0 not_a_nibble || eqb r.0 no_room) w (n ∷ w)

-- the nibbles that a call takes, before others
abbrev pub taken_by : Call → Answer → List ℕ → List ℕ
taken_by (feed n buffer) a w = takes a n w
taken_by done a w = w

-- The changed stream. A place is the count of nibbles before it.

-- the clean stream of some lines, its nibbles from the place i up to the place j replaced by others
abbrev pub changed : List Sent → ℕ → ℕ → List ℕ → List ℕ
changed ss i j new = take i (stream ss) ++ (new ++ drop j (stream ss))

-- a line as written, up to its end code and with it
abbrev pub up_to_end : Sent → List ℕ
up_to_end s = start_mark s ++ (content s ++ end_mark)

-- the lines whose end code lies wholly before the place i, where the first line starts at the place o
abbrev pub ended_by : ℕ → ℕ → List Sent → List Sent
ended_by i o [] = []
ended_by i o (s ∷ ss) =
    cond (leb (o + length (up_to_end s)) i) (s ∷ ended_by i (o + length (written s)) ss) (ended_by i (o + length (written s)) ss)

-- the first line start at the place j or after it, and the stream's end if there is none, where the first line starts at the place o
abbrev pub start_from : ℕ → ℕ → List Sent → ℕ
start_from j o [] = o
start_from j o (s ∷ ss) = cond (leb j o) o (start_from j (o + length (written s)) ss)

-- the lines from that line start on
abbrev pub lines_from : ℕ → ℕ → List Sent → List Sent
lines_from j o [] = []
lines_from j o (s ∷ ss) = cond (leb j o) (s ∷ ss) (lines_from j (o + length (written s)) ss)

-- the first line start after the stretch, as a place of the changed stream
abbrev pub start_after : List Sent → ℕ → ℕ → List ℕ → ℕ
start_after ss i j new = i + (length new + (start_from j 0 ss - j))

-- Lines that come out.

-- a line that comes out: what the call answers, and the body at the front of the buffer lent to that same call
pub record LineOut : Type 0 where
  pub kind : Kind
  pub number : ℕ
  pub repaired : Bool
  pub body : List ℕ

-- the line of an outcome, if it is one
abbrev pub line_in : Outcome → List LineOut
line_in nothing = []
line_in (line f body) = record { kind = f.kind; number = f.number; repaired = either_repaired f; body = body } ∷ []
line_in (gap g) = []
line_in (refused n) = []

-- a line comes out as sent: with the kind, number and body given to the writer, and neither code repaired
abbrev pub as_sent : Sent → LineOut
as_sent s = record { kind = s.kind; number = s.number; repaired = false; body = s.body }

-- Periods that come out (02, A7).

-- the good gap of an outcome, if it is one
abbrev pub gap_in : Outcome → List GapFacts
gap_in nothing = []
gap_in (line f body) = []
gap_in (gap g) = g ∷ []
gap_in (refused n) = []

-- a line's gap and period as sent: the bytes given to the writer; and as the next line is written straight after this one, the nibbles from
-- its first mark nibble to the first nibble of the mark after its gap are the line as written
abbrev pub gap_as_sent : Sent → GapFacts
gap_as_sent s = record { first = s.gap_one; second = s.gap_two; period = record { 0 = length (written s) } }

-- the lines of which everything, from the first nibble through the code of the mark after the gap, lies wholly before the place i, where the
-- first line starts at the place o. That mark is the next line's: the last line has none
abbrev pub closed_by : ℕ → ℕ → List Sent → List Sent
closed_by i o [] = []
closed_by i o (s ∷ []) = []
closed_by i o (s ∷ next ∷ ss) =
    let later : List Sent = closed_by i (o + length (written s)) (next ∷ ss) in
    cond (leb (o + length (written s) + length (start_mark next)) i) (s ∷ later) later

-- the lines with a mark after their gap: all but the last
abbrev pub closed : List Sent → List Sent
closed [] = []
closed (s ∷ []) = []
closed (s ∷ next ∷ ss) = s ∷ closed (next ∷ ss)

-- the nibbles of a mark: F F F F 0 0 and its code
abbrev pub mark_nibbles : ℕ
mark_nibbles = 8

-- What is collected of the calls' outcomes.

-- what is taken of the outcome of a call that feeds, and of the outcome of finish
pub record Collector (A : Type 0) : Type 0 where
  pub fed : Outcome → List A
  pub finished : Outcome → List A

-- what is collected of a call's outcome
abbrev pub collects : {A : Type 0} → Collector A → Call → Outcome → List A
collects k (feed n buffer) o = k.fed o
collects k done o = k.finished o

-- every line
abbrev pub line_collector : Collector LineOut
line_collector = record { fed = line_in; finished = line_in }

-- every good gap that a mark closes. One that finish closes carries no period
abbrev pub gap_collector : Collector GapFacts
gap_collector = record { fed = gap_in; finished = λ o. [] }

-- A reader of the type R, by its calls.

module _ {R : Type 0} (on : R → Call → CallResult R) where
  -- each call gets the reader that the call before returned
  abbrev pub on_run : R → List Call → R
  on_run r [] = r
  on_run r (c ∷ cs) = on_run (on r c).reader cs

  -- the nibbles taken, in order
  abbrev pub on_taken : R → List Call → List ℕ
  on_taken r [] = []
  on_taken r (c ∷ cs) = taken_by c (on r c).answer (on_taken (on r c).reader cs)

  -- what is collected, in order: a call's outcome is told by its answer and the buffer lent to it
  abbrev pub on_collected : {A : Type 0} → Collector A → Profile → R → List Call → List A
  on_collected k p r [] = []
  on_collected k p r (c ∷ cs) = collects k c (outcome_of p (on r c).answer (on r c).buffer) ++ on_collected k p (on r c).reader cs

  -- the lines that come out, in order
  abbrev pub on_lines : Profile → R → List Call → List LineOut
  on_lines p r cs = on_collected line_collector p r cs

  -- the good gaps that a mark closes, in order
  abbrev pub on_gaps : Profile → R → List Call → List GapFacts
  on_gaps p r cs = on_collected gap_collector p r cs

  -- what demand 3 says of the calls cs from the reader r
  pub record DemandThree (p : Profile) (r : R) (ss : List Sent) (i j : ℕ) (new : List ℕ) (cs : List Call) : Type 0 where
    -- out of the calls that take the nibbles before the stretch come exactly the lines whose end code lies wholly before it, in the
    -- order sent and each as sent
    pub lines_before : (first rest : List Call) → first ++ rest ≡ cs → length (on_taken r first) ≡ i
        → on_lines p r first ≡ map as_sent (ended_by i 0 ss)
    -- out of the call that takes the first F of the first line start after the stretch and of every call after that, finish included,
    -- come exactly the lines sent from there on, none missing and none added, in the order sent and each as sent
    pub lines_after : (first rest : List Call) → first ++ rest ≡ cs → length (on_taken r first) ≡ start_after ss i j new
        → on_lines p (on_run r first) rest ≡ map as_sent (lines_from j 0 ss)
    -- out of the calls that take the nibbles before the stretch come exactly the good gaps of the lines that lie wholly before it, each from
    -- its first nibble through the code of the mark after its gap: in the order sent, and each with its period as sent
    pub periods_before : (first rest : List Call) → first ++ rest ≡ cs → length (on_taken r first) ≡ i
        → on_gaps p r first ≡ map gap_as_sent (closed_by i 0 ss)
    -- out of the calls after those that take the mark of the first line start after the stretch come exactly the good gaps of the lines sent
    -- from there on that have a mark after them: in the order sent, and each with its period as sent
    pub periods_after : (first rest : List Call) → first ++ rest ≡ cs → length (on_taken r first) ≡ start_after ss i j new + mark_nibbles
        → on_gaps p (on_run r first) rest ≡ map gap_as_sent (closed (lines_from j 0 ss))

  -- demand 3 of the fresh reader r: for every clean stream, every stretch and what stands in its place, and every list of calls that
  -- take the changed stream
  abbrev pub MeetsDemandThree : Profile → R → Type 0
  MeetsDemandThree p r =
      (ss : List Sent)
      → AllWritable p ss
      → (i j : ℕ)
      → i ≤ j
      → j ≤ length (stream ss)
      → (new : List ℕ) (cs : List Call)
      → FinishLast cs
      → on_taken r cs ≡ changed ss i j new
      → DemandThree p r ss i j new cs

-- The calls of the meaning of a stream.

-- a call refused: reader and buffer stay as before
abbrev pub turned_away : State → ℕ → List ℕ → CallResult State
turned_away s n buffer = record { reader = s; answer = answers.Refused (record { 0 = n }); buffer = buffer }

-- a nibble taken
abbrev pub fed : Profile → State → ℕ → List ℕ → CallResult State
fed p s n buffer = record { reader = (step p s n).state; answer = answer_for (step p s n).outcome; buffer = buffer_after (step p s n).outcome buffer }

-- 10 where the input is above 15, then 12 where the buffer is shorter than the body, then the step
abbrev pub meaning_call : Profile → State → Call → CallResult State
meaning_call p s (feed n buffer) =
    cond (leb n 15) (cond (leb (body_length p) (length buffer)) (fed p s n buffer) (turned_away s no_room buffer)) (turned_away s not_a_nibble buffer)
meaning_call p s done = record { reader = (finish p s).state; answer = answer_for (finish p s).outcome; buffer = [] }
