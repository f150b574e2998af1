-- A table of half-line means of a VV5300 capture (02, A10): a row for each visible line, and how far a lent buffer lasts.
use Rattle.std.specs.Prelude.{◌≡◌, cond, List, [], ℕ, ltb, length, take, replicate, Option, None, Some}
use Rattle.line_code.specs.declared.Kind.TheVariants.{VL}
use Rattle.line_code.specs.LineCode.{kind_number}
use Rattle.profile.specs.declared.Profile.TheVariants.{VV5300}
use Rattle.profile.specs.Profile.{profile_number, body_length, longest}
use Rattle.stream.specs.declared.GapFacts.{GapFacts}
use Rattle.stream.specs.declared.Answer.{Answer}
use Rattle.stream.specs.declared.Answer.TheVariants as answer
use Rattle.stream.specs.Answers.{Outcome, answer_for, buffer_after}
use Rattle.reader_head.specs.Head.{passes}
use Rattle.reader.specs.Reader.{Took, fresh_reader, feed_of, finish_of}
use Rattle.text.specs.Put.{on_front}
use Rattle.lister_laws.specs.Lists.{Lists, taken_from, ListedText, listed_up_to}
use Rattle.half_means.specs.HalfMeans.{halves_of}
use Rattle.mean_rows.specs.MeanRows.{refused_row, means_row, means_room}
use Rattle.mean_gap.specs.AwaitedGap.{awaits_after}
use Rattle.list_means.specs.declared.MeanLister.{MeanLister}
use Rattle.list_means.specs.declared.MeansListed.{MeansListed}

-- a fresh VV5300 reader, an empty line buffer, and a line awaited
abbrev pub fresh_lister : MeanLister
fresh_lister = record { reader = fresh_reader VV5300; line = replicate longest 0; awaits = None }

-- What an answer brings.

-- the row of the visible line with a number, whose body is at the front of the line buffer: a good gap holds the sensor's means
unfoldable pub gap_row : ℕ → GapFacts → List ℕ → List ℕ
gap_row number g line =
    means_row number g.first g.second
    (halves_of (profile_number VV5300) (kind_number VL) (take (body_length VV5300) line) g.first g.second)

-- by its gap's answer; one that is refused has a row that says so
unfoldable pub answer_row : ℕ → Answer → List ℕ → List ℕ
answer_row number answer.Nothing line = []
answer_row number (answer.Line f) line = []
answer_row number (answer.Gap g) line = gap_row number g line
answer_row number (answer.Refused r) line = refused_row number r.0

-- the text of an answer, by what is awaited
unfoldable pub text_of : Option ℕ → Answer → List ℕ → List ℕ
text_of None a line = []
text_of (Some number) a line = answer_row number a line

-- One nibble.

-- the reader after it, and what it answers; it is lent the line buffer
abbrev pub fed : MeanLister → ℕ → Took
fed l n = feed_of l.reader n longest

-- the lister after an outcome, and the outcome's text
abbrev pub with_outcome : MeanLister → Took → MeanLister
with_outcome l t =
    record { reader = t.reader; line = buffer_after t.outcome l.line; awaits = awaits_after l.awaits (answer_for t.outcome) }

-- the text of an outcome, with the line buffer as it leaves it
abbrev pub outcome_text : MeanLister → Outcome → List ℕ
outcome_text l o = text_of l.awaits (answer_for o) (buffer_after o l.line)

-- the lister after a nibble
unfoldable pub after_nibble : MeanLister → ℕ → MeanLister
after_nibble l n = with_outcome l (fed l n)

-- the text that a nibble brings
unfoldable pub nibble_text : MeanLister → ℕ → List ℕ
nibble_text l n = outcome_text l (fed l n).outcome

-- With a buffer.

-- row by row, as far as there is room for one row more
abbrev pub means_lists : Lists MeanLister
means_lists = record { step = after_nibble; text = nibble_text; most = means_room }

-- how many nibbles are taken; of a reader that fails its own test none
abbrev pub taken_of : MeanLister → ℕ → List ℕ → ℕ
taken_of l room w = cond (passes l.reader.head) (taken_from means_lists l room w) 0

-- what is listed of nibbles, as far as the buffer lasts
unfoldable pub listed_of : MeanLister → ℕ → List ℕ → ListedText MeanLister
listed_of l room w = listed_up_to means_lists l w (taken_of l room w)

-- Finish.

-- the last mark's answer completes a row, or none
abbrev pub last_text : MeanLister → List ℕ
last_text l = text_of l.awaits (answer_for (finish_of l.reader).outcome) l.line

-- where the buffer has room for a row, a lister with the reader that finish leaves, and a line awaited; else the lister as it was, and no text
unfoldable pub finished_of : MeanLister → ℕ → ListedText MeanLister
finished_of l room =
    cond (ltb room means_room) (record { lister = l; taken = 0; text = [] })
    (record { lister = record { reader = (finish_of l.reader).reader; line = l.line; awaits = None }; taken = 0; text = last_text l })

-- what a call gives back, as one sentence: the lister and the count as the definition has them, and its text at the front of the buffer
pub record ListsMeans (g : ListedText MeanLister) (r : MeansListed) (before after : List ℕ) : Type 0 where
  pub next : r ≡ record { lister = g.lister; taken = g.taken; used = length g.text }
  pub leaves : after ≡ on_front g.text before
