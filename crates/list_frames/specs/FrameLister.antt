-- The frames of a capture listed: a line for each, the report of the whole, and how far a lent buffer lasts.
use Rattle.std.specs.Prelude.{◌≡◌, Bool, cond, List, [], ◌++◌, ℕ, ◌+◌, ltb, length}
use Rattle.profile.specs.declared.Profile.{Profile}
use Rattle.profile.specs.Profile.{longest}
use Rattle.stream.specs.declared.Answer.{Answer}
use Rattle.stream.specs.Answers.{Outcome, answer_for}
use Rattle.reader_head.specs.Head.{passes}
use Rattle.reader.specs.Reader.{Took, fresh_reader, feed_of, finish_of}
use Rattle.findings.specs.declared.Found.{Found}
use Rattle.verdict.specs.declared.Verdict.{Verdict}
use Rattle.findings.specs.Findings.{no_findings, take_of, close_of}
use Rattle.verdict.specs.Verdict.{is_lost, verdict_of}
use Rattle.verdict_report.specs.Report.{report_room, report_of}
use Rattle.text.specs.Put.{on_front}
use Rattle.lister_laws.specs.Lists.{Lists, lister_after, text_after, taken_from, ListedText, listed_up_to}
use Rattle.list_news.specs.NewsLines.{news_line, news_room}
use Rattle.list_frames.specs.declared.FrameLister.{FrameLister}
use Rattle.list_frames.specs.declared.FramesListed.{FramesListed}

-- a fresh reader, and nothing found
abbrev pub fresh_lister : Profile → FrameLister
fresh_lister p = record { reader = fresh_reader p; findings = no_findings p }

-- What an answer brings.

-- the lister after an outcome, and the line on the frame that there is news of, if there is one
abbrev pub with_outcome : FrameLister → Took → FrameLister
with_outcome l t = record { reader = t.reader; findings = (take_of l.findings (answer_for t.outcome)).findings }

-- the text of an outcome: the line on a frame, if there is news
abbrev pub outcome_line : FrameLister → Outcome → List ℕ
outcome_line l o = news_line (take_of l.findings (answer_for o)).news

-- One nibble.

-- the reader after it, and what it answers, with a line buffer of the longest body's length
abbrev pub fed : FrameLister → ℕ → Took
fed l n = feed_of l.reader n longest

-- the lister after a nibble
unfoldable pub after_nibble : FrameLister → ℕ → FrameLister
after_nibble l n = with_outcome l (fed l n)

-- the text that a nibble brings
unfoldable pub nibble_text : FrameLister → ℕ → List ℕ
nibble_text l n = outcome_line l (fed l n).outcome

-- Many nibbles.

-- line by line, as far as there is room for one line more
abbrev pub frame_lists : Lists FrameLister
frame_lists = record { step = after_nibble; text = nibble_text; most = news_room }

-- the lister after them
abbrev pub list_after : FrameLister → List ℕ → FrameLister
list_after = lister_after frame_lists

-- their text
abbrev pub list_text : FrameLister → List ℕ → List ℕ
list_text = text_after frame_lists

-- With a buffer.

-- how many nibbles are taken; of a reader that fails its own test none
abbrev pub taken_of : FrameLister → ℕ → List ℕ → ℕ
taken_of l room w = cond (passes l.reader.head) (taken_from frame_lists l room w) 0

-- what is listed of nibbles, as far as the buffer lasts
unfoldable pub listed_of : FrameLister → ℕ → List ℕ → ListedText FrameLister
listed_of l room w = listed_up_to frame_lists l w (taken_of l room w)

-- Finish.

-- the last mark's answer, if there is one, and what is found with it
abbrev pub last_answer : FrameLister → Answer
last_answer l = answer_for (finish_of l.reader).outcome

-- what is found at the capture's end
abbrev pub last_found : FrameLister → Found
last_found l = close_of l.findings (last_answer l)

-- the signal was lost before the end
abbrev pub lost_at : FrameLister → Bool
lost_at l = is_lost l.reader.head.profile l.reader.head.at l.reader.head.count

-- the verdict, if the capture ended here
abbrev pub lister_verdict : FrameLister → Verdict
lister_verdict l = verdict_of (last_found l).findings (lost_at l)

-- the last line, if there is one, and below it the report of the frames and the signal, with the verdict
abbrev pub end_text : FrameLister → List ℕ
end_text l = news_line (last_found l).news ++ report_of (last_found l).findings (lost_at l) (lister_verdict l)

-- room for any
abbrev pub end_room : ℕ
end_room = news_room + report_room

-- where the buffer has it, a lister with the reader that finish leaves, and nothing found; else the lister as it was, and no text
unfoldable pub finished_of : FrameLister → ℕ → ListedText FrameLister
finished_of l room =
    cond (ltb room end_room) (record { lister = l; taken = 0; text = [] })
    (record { lister = record { reader = (finish_of l.reader).reader; findings = no_findings l.reader.head.profile }; taken = 0; text = end_text l })

-- what a call gives back, as one sentence: the lister and the count as the definition has them, and its text at the front of the buffer
pub record ListsFrames (g : ListedText FrameLister) (r : FramesListed) (before after : List ℕ) : Type 0 where
  pub next : r ≡ record { lister = g.lister; taken = g.taken; used = length g.text }
  pub leaves : after ≡ on_front g.text before
