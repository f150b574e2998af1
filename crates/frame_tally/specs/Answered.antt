-- A capture's answers in a row: the tally after them, and what they told.
use Rattle.std.specs.Prelude.{Bool, true, false, List, [], ◌∷◌, ◌++◌, ℕ}
use Rattle.line_code.specs.LineCode.{kind_number}
use Rattle.profile.specs.declared.Profile.{Profile}
use Rattle.stream.specs.declared.GapFacts.{GapFacts}
use Rattle.stream.specs.declared.LineFacts.{LineFacts}
use Rattle.stream.specs.declared.Answer.{Answer}
use Rattle.stream.specs.declared.Answer.TheVariants as answer
use Rattle.frame_judge.specs.Calls.{Line, line}
use Rattle.counts.specs.Counts.{one_more}
use Rattle.frame_tally.specs.declared.Tally.{Tally}
use Rattle.frame_tally.specs.declared.News.{News}
use Rattle.frame_tally.specs.declared.News.TheVariants.{Nothing, Complete, Broken, Cut}
use Rattle.frame_tally.specs.Tally.{fresh_tally, take_of, close_of}

-- the tally after some answers, and what they told
abbrev pub tallied : Tally → List Answer → Tally
tallied t [] = t
tallied t (a ∷ w) = tallied (take_of t a).tally w

-- the news of answers, in order
abbrev pub news_of : Tally → List Answer → List News
news_of t [] = []
news_of t (a ∷ w) = (take_of t a).news ∷ news_of (take_of t a).tally w

-- the marks answered, with this answer: every one but Nothing is a mark's
abbrev pub with_mark : ℕ → Answer → ℕ
with_mark n answer.Nothing = n
with_mark n (answer.Line f) = one_more n
with_mark n (answer.Gap g) = one_more n
with_mark n (answer.Refused r) = one_more n

-- a whole capture: its answers, and finish's
abbrev pub capture_tally : Profile → List Answer → Answer → Tally
capture_tally p w last = (close_of (tallied (fresh_tally p) w) last).tally

-- the news of a whole capture
abbrev pub capture_news : Profile → List Answer → Answer → List News
capture_news p w last = news_of (fresh_tally p) w ++ ((close_of (tallied (fresh_tally p) w) last).news ∷ [])

-- one of the news is of a complete frame; of a broken one
abbrev pub says_complete : News → Bool
says_complete Nothing = false
says_complete (Complete frame b mark) = true
says_complete (Broken frame mark refusal own) = false
says_complete (Cut frame) = false

-- news of a broken frame
abbrev pub says_broken : News → Bool
says_broken Nothing = false
says_broken (Complete frame b mark) = false
says_broken (Broken frame mark refusal own) = true
says_broken (Cut frame) = false

-- Lines with their gaps.

-- what is said of a line, and of the gap that follows it
pub record LineWithGap : Type 0 where
  pub facts : LineFacts
  pub gap : GapFacts

-- lines as the judge sees them
abbrev pub lines_of : List LineWithGap → List Line
lines_of [] = []
lines_of (l ∷ ls) = line (kind_number l.facts.kind) l.facts.number ∷ lines_of ls

-- the answers of lines, each with its gap
abbrev pub with_gaps : List LineWithGap → List Answer
with_gaps [] = []
with_gaps (l ∷ ls) = answer.Line l.facts ∷ answer.Gap l.gap ∷ with_gaps ls
