-- A clean stream of which any number of stretches were replaced by any nibbles (01, demand 3, with more stretches than one). Definitions only.
use Rattle.std.specs.Prelude.{◌≡◌, List, [], ◌∷◌, ◌++◌, map, ℕ, ◌+◌, ◌-◌, ◌≤◌, length, take, drop}
use Rattle.profile.specs.declared.Profile.{Profile}
use Rattle.stream.specs.Written.{Sent, AllWritable, stream}
use Rattle.reader.specs.declared.Reader.{Reader}
use Rattle.recovery.specs.Calls.{Call, CallResult, as_sent, gap_as_sent, mark_nibbles, start_from, line_collector, gap_collector, on_run, on_taken, on_lines, on_gaps}
use Rattle.recovery.specs.CutStream.{whole_between, closed_between}
use Rattle.refinement.specs.ReaderCalls.{reader_call}
use Rattle.refinement.specs.Runs.{RunCall, runs_taken, runs_collected, all_one_by_one, FinishLastRun, SameAsFeeds}

-- The change. A place is the count of nibbles before it.

-- a segment of a stream: nibbles that stayed; or some that stood there, and what stands in their stead
pub data Segment : Type 0 where
  unchanged : List ℕ → Segment
  replaced : List ℕ → List ℕ → Segment

-- the nibbles of the stream before the change
abbrev pub clean_of : List Segment → List ℕ
clean_of [] = []
clean_of (unchanged w ∷ gs) = w ++ clean_of gs
clean_of (replaced old new ∷ gs) = old ++ clean_of gs

-- and after it
abbrev pub changed_of : List Segment → List ℕ
changed_of [] = []
changed_of (unchanged w ∷ gs) = w ++ changed_of gs
changed_of (replaced old new ∷ gs) = new ++ changed_of gs

-- one stretch, demand 3's: the segments of a clean stream of which the nibbles from the place i up to the place j are replaced
abbrev pub one_stretch : List Sent → ℕ → ℕ → List ℕ → List Segment
one_stretch ss i j new = unchanged (take i (stream ss)) ∷ replaced (take (j - i) (drop i (stream ss))) new ∷ unchanged (drop j (stream ss)) ∷ []

-- The lines that lie whole in what stayed.

-- what is chosen for each unchanged segment by the two places, in the clean stream, where it begins and where it ends; the first one begins at i
abbrev pub in_unchanged : (ℕ → ℕ → List Sent) → ℕ → List Segment → List Sent
in_unchanged chosen i [] = []
in_unchanged chosen i (unchanged w ∷ gs) = chosen i (i + length w) ++ in_unchanged chosen (i + length w) gs
in_unchanged chosen i (replaced old new ∷ gs) = in_unchanged chosen (i + length old) gs

-- the lines that lie wholly in one unchanged segment, from the first F of their start mark through their end code, in the order sent
abbrev pub whole_lines : List Sent → List Segment → List Sent
whole_lines ss gs = in_unchanged (λ i j. whole_between i j ss) 0 gs

-- those of them of which the segment holds all up to the end of the code of the mark after their gap
abbrev pub closed_lines : List Sent → List Segment → List Sent
closed_lines ss gs = in_unchanged (λ i j. closed_between i j ss) 0 gs

-- the first list is the second one with none or more left out
pub data Sublist {A : Type 0} : List A → List A → Type 0 where
  both_empty : Sublist [] []
  left_out : {x : A} {xs ys : List A} → Sublist xs ys → Sublist xs (x ∷ ys)
  as_well : {x : A} {xs ys : List A} → Sublist xs ys → Sublist (x ∷ xs) (x ∷ ys)

-- What comes out of one unchanged segment, exactly.

-- the nibbles from the place i to the first line start at that place or after it
abbrev pub to_line_start : List Sent → ℕ → ℕ
to_line_start ss i = start_from i 0 ss - i

module _ {R : Type 0} (on : R → Call → CallResult R) where
  -- of the unchanged segment w, after these segments, and of the calls cs from the reader r
  pub record SegmentRead (p : Profile) (r : R) (ss : List Sent) (before : List Segment) (w : List ℕ) (cs : List Call) : Type 0 where
    -- out of the calls that take its nibbles from its first line start on come exactly the lines that lie wholly in it, none missing and none added,
    -- in the order sent and each as sent
    pub lines_exactly : let i : ℕ = length (clean_of before) in
        (first here rest : List Call)
        → first ++ (here ++ rest) ≡ cs
        → length (on_taken on r first) ≡ length (changed_of before) + to_line_start ss i
        → length (on_taken on (on_run on r first) here) ≡ length w - to_line_start ss i
        → on_lines on p (on_run on r first) here ≡ map as_sent (whole_between i (i + length w) ss)
    -- out of those that take its nibbles past the mark of that line start, where it holds that mark, come exactly the good gaps of the lines of which
    -- it holds all up to the code of the mark after their gap, in the order sent and each with its period as sent
    pub periods_exactly : let i : ℕ = length (clean_of before) in
        let past : ℕ = to_line_start ss i + mark_nibbles in
        past ≤ length w
        → (first here rest : List Call)
        → first ++ (here ++ rest) ≡ cs
        → length (on_taken on r first) ≡ length (changed_of before) + past
        → length (on_taken on (on_run on r first) here) ≡ length w - past
        → on_gaps on p (on_run on r first) here ≡ map gap_as_sent (closed_between i (i + length w) ss)

-- All of it, over the reader's own calls.

-- the calls cs of the reader r take a clean stream with these segments
pub record StretchesRead (p : Profile) (r : Reader) (ss : List Sent) (gs : List Segment) (cs : List RunCall) : Type 0 where
  -- among the lines that they hand out are, in the order sent and each as sent, all that lie wholly in one unchanged segment
  pub lines_come : Sublist (map as_sent (whole_lines ss gs)) (runs_collected line_collector p r cs)
  -- and among the good gaps, each with its period as sent, those of them of which the segment holds all up to the code of the mark after the gap
  pub gaps_come : Sublist (map gap_as_sent (closed_lines ss gs)) (runs_collected gap_collector p r cs)
  -- exactly: a list with runs does what its calls one by one do, and of those the ones that take an unchanged segment from its first line start on
  -- bring no other
  pub one_by_one : SameAsFeeds p r cs
  pub segments_read : (before : List Segment) (w : List ℕ) (later : List Segment) → before ++ (unchanged w ∷ later) ≡ gs
      → SegmentRead reader_call p r ss before w (all_one_by_one r cs)

-- of the fresh reader r: for every clean stream, whatever stretches of it are replaced by whatever nibbles, and every list of calls that takes the
-- outcome, runs and refused calls among them
abbrev pub ReadsStretches : Profile → Reader → Type 0
ReadsStretches p r =
    (ss : List Sent)
    → AllWritable p ss
    → (gs : List Segment)
    → clean_of gs ≡ stream ss
    → (cs : List RunCall)
    → FinishLastRun cs
    → runs_taken r cs ≡ changed_of gs
    → StretchesRead p r ss gs cs
