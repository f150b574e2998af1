-- The marks of a capture listed: a row for each, and how far a lent buffer lasts.
use Rattle.std.specs.Prelude.{◌≡◌, cond, List, [], ℕ, ltb, length}
use Rattle.counts.specs.Counts.{one_more}
use Rattle.profile.specs.declared.Profile.{Profile}
use Rattle.profile.specs.Profile.{longest}
use Rattle.stream.specs.declared.Answer.{Answer}
use Rattle.stream.specs.Answers.{Outcome, answer_for, is_answer}
use Rattle.reader_head.specs.Head.{passes}
use Rattle.reader.specs.Reader.{Took, fresh_reader, feed_of, finish_of}
use Rattle.text.specs.Put.{on_front}
use Rattle.lister_laws.specs.Lists.{Lists, lister_after, text_after, taken_from, ListedText, listed_up_to}
use Rattle.list_rows.specs.Rows.{row_room, row_of}
use Rattle.list_marks.specs.declared.MarkLister.{MarkLister}
use Rattle.list_marks.specs.declared.MarksListed.{MarksListed}

-- a fresh reader, and no mark
abbrev pub fresh_lister : Profile → MarkLister
fresh_lister p = record { reader = fresh_reader p; marks = 0 }

-- What an answer brings.

-- the marks with it: every answer but Nothing is a mark's
abbrev pub marks_with : ℕ → Answer → ℕ
marks_with n a = cond (is_answer a) (one_more n) n

-- the lister after an outcome, and the outcome's row
abbrev pub with_outcome : MarkLister → Took → MarkLister
with_outcome l t = record { reader = t.reader; marks = marks_with l.marks (answer_for t.outcome) }

-- the text of an outcome: a row, if it is an answer
abbrev pub outcome_row : MarkLister → Outcome → List ℕ
outcome_row l o = row_of (marks_with l.marks (answer_for o)) (answer_for o)

-- One nibble.

-- the reader after it, and what it answers, with a line buffer of the longest body's length
abbrev pub fed : MarkLister → ℕ → Took
fed l n = feed_of l.reader n longest

-- the lister after a nibble
unfoldable pub after_nibble : MarkLister → ℕ → MarkLister
after_nibble l n = with_outcome l (fed l n)

-- the text that a nibble brings
unfoldable pub nibble_text : MarkLister → ℕ → List ℕ
nibble_text l n = outcome_row l (fed l n).outcome

-- Many nibbles.

-- row by row, as far as there is room for one row more
abbrev pub mark_lists : Lists MarkLister
mark_lists = record { step = after_nibble; text = nibble_text; most = row_room }

-- the lister after them
abbrev pub list_after : MarkLister → List ℕ → MarkLister
list_after = lister_after mark_lists

-- their text
abbrev pub list_text : MarkLister → List ℕ → List ℕ
list_text = text_after mark_lists

-- With a buffer.

-- how many nibbles are taken; of a reader that fails its own test none
abbrev pub taken_of : MarkLister → ℕ → List ℕ → ℕ
taken_of l room w = cond (passes l.reader.head) (taken_from mark_lists l room w) 0

-- what is listed of nibbles, as far as the buffer lasts
unfoldable pub listed_of : MarkLister → ℕ → List ℕ → ListedText MarkLister
listed_of l room w = listed_up_to mark_lists l w (taken_of l room w)

-- Finish.

-- the last mark's row, if there is one
abbrev pub end_text : MarkLister → List ℕ
end_text l = outcome_row l (finish_of l.reader).outcome

-- where the buffer has room for a row, a lister with the reader that finish leaves, and no mark; else the lister as it was, and no text
unfoldable pub finished_of : MarkLister → ℕ → ListedText MarkLister
finished_of l room =
    cond (ltb room row_room) (record { lister = l; taken = 0; text = [] })
    (record { lister = record { reader = (finish_of l.reader).reader; marks = 0 }; taken = 0; text = end_text l })

-- what a call gives back, as one sentence: the lister and the count as the definition has them, and its text at the front of the buffer
pub record ListsMarks (g : ListedText MarkLister) (r : MarksListed) (before after : List ℕ) : Type 0 where
  pub next : r ≡ record { lister = g.lister; taken = g.taken; used = length g.text }
  pub leaves : after ≡ on_front g.text before
