-- The listing of a capture: the rows of its marks. Definitions only.
use Rattle.std.specs.Prelude.{List, [], ◌∷◌, ◌++◌, ℕ}
use Rattle.counts.specs.Counts.{one_more}
use Rattle.profile.specs.declared.Profile.{Profile}
use Rattle.stream.specs.Answers.{Outcome, answer_for}
use Rattle.stream.specs.Stream.{fresh}
use Rattle.recovery.specs.CleanAnswers.{said, outcomes_finished}
use Rattle.list_rows.specs.Rows.{header_row, row_of}

-- the rows of answers, end to end, counted on from n; a count stops at the greatest u64
abbrev pub rows_from : ℕ → List Outcome → List ℕ
rows_from n [] = []
rows_from n (o ∷ os) = row_of n (answer_for o) ++ rows_from (one_more n) os

-- the listing of nibbles: the header, and a row for each answer of the meaning, finish's too, counted from 1
abbrev pub listing_of : Profile → List ℕ → List ℕ
listing_of p w = header_row ++ rows_from 1 (said (outcomes_finished p fresh w))
