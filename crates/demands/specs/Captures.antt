-- What the reader's own calls answer to a clean stream, whole or cut anywhere at both ends. Definitions only.
use Rattle.std.specs.Prelude.{◌≡◌, false, cond, List, [], ◌++◌, map, ℕ, ◌+◌, ◌≤◌}
use Rattle.profile.specs.declared.Profile.{Profile}
use Rattle.stream.specs.declared.Before.{Before}
use Rattle.stream.specs.declared.Mark.TheVariants.{Open}
use Rattle.stream.specs.Answers.{Outcome}
use Rattle.stream.specs.Written.{Sent, most_text}
use Rattle.reader.specs.Reader.{fresh_reader}
use Rattle.recovery.specs.Calls.{line_in, as_sent, gap_in, gap_as_sent}
use Rattle.recovery.specs.Collected.{collected}
use Rattle.recovery.specs.CleanAnswers.{said_in}
use Rattle.recovery.specs.CutStream.{whole_between, closed_between, Orderly, LastAnswer}
use Rattle.refinement.specs.Runs.{RunCall, on_runs}
use Rattle.refinement.specs.RunAnswers.{runs_finish}
use Rattle.demands.specs.DemandTwo.{answers_to}

-- of calls that take the n nibbles from the place i on of the clean stream of ss
pub record CaptureRead (p : Profile) (ss : List Sent) (i n : ℕ) (cs : List RunCall) : Type 0 where
  -- the answers while the nibbles go in, and what finish answers, where it comes
  pub on_the_way : List Outcome
  pub last : Outcome
  pub answered : answers_to p cs ≡ on_the_way ++ cond (runs_finish cs) (said_in last) []
  -- line, good gap, line, good gap, but that the first may be 8; and what finish answers after them
  pub orderly : Orderly on_the_way
  pub last_fits : LastAnswer on_the_way last
  -- the lines are exactly those that lie wholly in the cut up to their end code, as sent, and the gaps those of them with a mark after their gap
  pub lines_whole : collected line_in on_the_way ≡ map as_sent (whole_between i (i + n) ss)
  pub gaps_closed : collected gap_in on_the_way ≡ map gap_as_sent (closed_between i (i + n) ss)
  -- before finish, where a mark is open, the reader has counted so many nibbles of its text at most
  pub text_short : runs_finish cs ≡ false → (before : Before) (code : ℕ) → (on_runs (fresh_reader p) cs).head.at ≡ Open before code
      → (on_runs (fresh_reader p) cs).head.count ≤ most_text p
