-- A slipped clip (02, A14): a clean stream without some nibbles in a row of one line's body, and that it costs this line alone, as a statement.
-- Definitions only; SlipLaws.antt proves it of the reader that runs.
use Rattle.std.specs.Prelude.{◌≡◌, List, [], ◌∷◌, ◌++◌, map, ℕ, ◌+◌, ◌/◌, ◌%◌, ◌≤◌, length}
use Rattle.line_number.specs.LineNumber.{number_byte}
use Rattle.profile.specs.declared.Profile.TheVariants.{VV5404}
use Rattle.stream.specs.Written.{Sent, AllWritable, nibbles, start_mark, stream}
use Rattle.reader.specs.declared.Reader.{Reader}
use Rattle.recovery.specs.Calls.{changed, as_sent, line_collector}
use Rattle.refinement.specs.Runs.{RunCall, FinishLastRun, runs_taken, runs_collected}

-- what stands before a line's body: its start mark and its two number bytes
abbrev pub before_body : Sent → List ℕ
before_body s = start_mark s ++ nibbles (number_byte (s.number / 64) ∷ number_byte (s.number % 64) ∷ [])

-- the place of the body's first nibble, in a clean stream with these lines before the line
abbrev pub body_start : List Sent → Sent → ℕ
body_start before s = length (stream before) + length (before_body s)

-- a clean stream without k nibbles of the body of its line s, the first i of that body still there: demand 3's changed stream, with nothing put
-- in their place
abbrev pub slipped : List Sent → Sent → List Sent → ℕ → ℕ → List ℕ
slipped before s after i k = changed (before ++ (s ∷ after)) (body_start before s + i) (body_start before s + (i + k)) []

-- one or more nibbles in a row, all inside the body of s
pub record Inside (s : Sent) (i k : ℕ) : Type 0 where
  pub some_dropped : 1 ≤ k
  pub all_inside : i + k ≤ length (nibbles s.body)

-- of the fresh reader r: for every clean profile 0 stream, every slip inside the body of one of its lines, and every list of calls that take what
-- is left, runs and refused calls among them, exactly the other lines come out, in the order sent and each as sent
abbrev pub CostsOneLine : Reader → Type 0
CostsOneLine r =
    (before : List Sent) (s : Sent) (after : List Sent)
    → AllWritable VV5404 (before ++ (s ∷ after))
    → (i k : ℕ)
    → Inside s i k
    → (cs : List RunCall)
    → FinishLastRun cs
    → runs_taken r cs ≡ slipped before s after i k
    → runs_collected line_collector VV5404 r cs ≡ map as_sent (before ++ after)
