-- A clean stream cut anywhere at both ends, as a capture is that starts and ends anywhere: what a fresh reader answers to it. Definitions only.
use Rattle.std.specs.Prelude.{◌≡◌, List, [], ◌∷◌, map, ℕ, ◌+◌, ◌≤◌, length, take, drop}
use Rattle.refusal.specs.Refusal.{unfinished_line, end_without_line, bad_gap}
use Rattle.profile.specs.declared.Profile.{Profile}
use Rattle.stream.specs.declared.Before.{Before}
use Rattle.stream.specs.declared.LineFacts.{LineFacts}
use Rattle.stream.specs.declared.GapFacts.{GapFacts}
use Rattle.stream.specs.declared.Mark.TheVariants.{Open}
use Rattle.stream.specs.Answers.{Outcome, nothing, line, gap, refused}
use Rattle.stream.specs.Stream.{State, fresh, finish, run, outcomes}
use Rattle.stream.specs.Written.{Sent, most_text, stream}
use Rattle.recovery.specs.Calls.{as_sent, ended_by, start_from, lines_from, gap_as_sent, closed_by}
use Rattle.recovery.specs.Collected.{lines, gaps}
use Rattle.recovery.specs.CleanAnswers.{said}

-- the nibbles of a clean stream from the place i on: n of them, or fewer where it ends
abbrev pub cut_out : List Sent → ℕ → ℕ → List ℕ
cut_out ss i n = take n (drop i (stream ss))

-- the lines whose start mark begins at the place i or after it, and whose end code ends at the place j or before it
abbrev pub whole_between : ℕ → ℕ → List Sent → List Sent
whole_between i j ss = ended_by j (start_from i 0 ss) (lines_from i 0 ss)

-- and those of them with all up to the end of the code of the mark after their gap
abbrev pub closed_between : ℕ → ℕ → List Sent → List Sent
closed_between i j ss = closed_by j (start_from i 0 ss) (lines_from i 0 ss)

-- line, good gap, line, good gap, and so on
pub data Tidy : List Outcome → Type 0 where
  tidy_none : Tidy []
  tidy_line : {f : LineFacts} {body : List ℕ} → Tidy (line f body ∷ [])
  tidy_both : {f : LineFacts} {body : List ℕ} {g : GapFacts} {os : List Outcome} → Tidy os → Tidy (line f body ∷ gap g ∷ os)

-- the same, but that the first may be 8: the capture began within a line, and its end mark comes first
pub data Orderly : List Outcome → Type 0 where
  all_tidy : {os : List Outcome} → Tidy os → Orderly os
  began_within : {os : List Outcome} → Tidy os → Orderly (refused end_without_line ∷ os)

-- what finish answers where these answers came before: nothing where no mark was read; 3 where the capture ends within a line; 9 where it ends
-- within a gap's two bytes or the next mark; a good gap; and 8 where the only mark read is an end mark
pub data LastAnswer : List Outcome → Outcome → Type 0 where
  no_mark_read : LastAnswer [] nothing
  within_line : {os : List Outcome} → LastAnswer os (refused unfinished_line)
  within_gap : {os : List Outcome} → LastAnswer os (refused bad_gap)
  gap_closed : {os : List Outcome} {g : GapFacts} → LastAnswer os (gap g)
  end_alone : LastAnswer [] (refused end_without_line)

-- where a mark is open, so many nibbles at most stand in its text
abbrev pub TextShort : Profile → State → Type 0
TextShort p x = (before : Before) (code : ℕ) → x.at ≡ Open before code → length x.text ≤ most_text p

-- what is claimed of the n nibbles from the place i on, fed to a fresh reader
pub record CutStream (p : Profile) (ss : List Sent) (i n : ℕ) : Type 0 where
  -- out come exactly the lines that lie wholly in the cut up to their end code, in the order sent and each as sent
  pub lines_whole : lines p fresh (cut_out ss i n) ≡ map as_sent (whole_between i (i + n) ss)
  -- and exactly the good gaps of those with the mark after their gap in the cut, each with its period as sent
  pub gaps_closed : gaps p fresh (cut_out ss i n) ≡ map gap_as_sent (closed_between i (i + n) ss)
  -- they come in turn, and beside them only the very first answer may come, and be 8
  pub answers_orderly : Orderly (said (outcomes p fresh (cut_out ss i n)))
  -- finish answers as the place says where the cut ends
  pub finish_answers : LastAnswer (said (outcomes p fresh (cut_out ss i n))) (finish p (run p fresh (cut_out ss i n))).outcome
  -- and the last mark's text is short
  pub text_short : TextShort p (run p fresh (cut_out ss i n))
