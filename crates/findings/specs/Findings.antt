-- What is found in a capture, from the answers of the reader's calls: its frames, its signal, and the lines outside frames.
use Rattle.std.specs.Prelude.{Bool, false, cond, ℕ, eqb}
use Rattle.counts.specs.Counts.{one_more}
use Rattle.profile.specs.declared.Profile.{Profile}
use Rattle.stream.specs.declared.Answer.{Answer}
use Rattle.stream.specs.Answers.{is_line_answer}
use Rattle.signal_tally.specs.Signal as signal
use Rattle.frame_judge.specs.declared.Judge.{Judge}
use Rattle.frame_judge.specs.declared.Judge.TheVariants.{Waiting, Due}
use Rattle.frame_tally.specs.declared.Tally.{Tally}
use Rattle.frame_tally.specs.declared.News.{News}
use Rattle.frame_tally.specs.declared.News.TheVariants.{Nothing, Complete, Broken, Cut}
use Rattle.frame_tally.specs.declared.Told.{Told}
use Rattle.frame_tally.specs.Tally as tally
use Rattle.findings.specs.declared.Outside.{Outside}
use Rattle.findings.specs.declared.Findings.{Findings}
use Rattle.findings.specs.declared.Found.{Found}

-- nothing found yet, of a capture of this profile
abbrev pub no_findings : Profile → Findings
no_findings p =
    record { tally = tally.fresh_tally p; signal = signal.fresh_signal; outside = record { early = 0; later = 0 }; cut = 0 }

-- Lines outside frames.

-- a line that finds the judge waiting and leaves it so
abbrev pub is_outside : Judge → Judge → Answer → Bool
is_outside Waiting Waiting a = is_line_answer a
is_outside Waiting (Due place b) a = false
is_outside (Due place b) j a = false

-- one more, before the first frame or later
abbrev pub one_outside : Outside → ℕ → Outside
one_outside o frames =
    cond (eqb frames 0) (record { early = one_more o.early; later = o.later }) (record { early = o.early; later = one_more o.later })

-- with an answer, by the tally before and after it
unfoldable pub with_line : Outside → Tally → Tally → Answer → Outside
with_line o before after a = cond (is_outside before.judge after.judge a) (one_outside o before.frames) o

-- Answers.

-- after an answer, by what the tally tells
abbrev pub finding : Findings → Answer → Told → Found
finding f a told =
    record {
      findings = record { tally = told.tally; signal = signal.take_of f.signal a; outside = with_line f.outside f.tally told.tally a; cut = f.cut };
      news = told.news;
    }

-- an answer taken
unfoldable pub take_of : Findings → Answer → Found
take_of f a = finding f a (tally.take_of f.tally a)

-- The end of the capture.

-- the frames that were cut off
abbrev pub with_cut : ℕ → News → ℕ
with_cut n Nothing = n
with_cut n (Complete frame b mark) = n
with_cut n (Broken frame mark refusal own) = n
with_cut n (Cut frame) = one_more n

-- at the end, by what the tally tells
abbrev pub closing : Findings → Answer → Told → Found
closing f last told =
    record {
      findings = record { tally = told.tally; signal = signal.close_of f.signal last; outside = f.outside; cut = with_cut f.cut told.news };
      news = told.news;
    }

-- the capture's end
unfoldable pub close_of : Findings → Answer → Found
close_of f last = closing f last (tally.close_of f.tally last)
