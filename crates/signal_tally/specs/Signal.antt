-- What a capture's answers say of its signal, answer by answer. Seen.antt says the same of all answers at once.
use Rattle.std.specs.Prelude.{Bool, false, ◌||◌, cond, List, ℕ, eqb, replicate}
use Rattle.refusal.specs.Refusal.{unfinished_line, end_without_line, bad_gap}
use Rattle.counts.specs.Counts.{one_more, one_more_at}
use Rattle.line_code.specs.declared.Repair.{Repair}
use Rattle.line_code.specs.declared.Repair.TheVariants.{Clean, Bit}
use Rattle.spacing.specs.Spacing.{no_periods, with_period}
use Rattle.stream.specs.declared.LineFacts.{LineFacts}
use Rattle.stream.specs.declared.GapFacts.{GapFacts}
use Rattle.stream.specs.declared.Answer.{Answer}
use Rattle.stream.specs.declared.Answer.TheVariants.{Nothing, Line, Gap, Refused}
use Rattle.signal_tally.specs.declared.First.{First}
use Rattle.signal_tally.specs.declared.First.TheVariants.{Unseen, InsideLine, Other}
use Rattle.signal_tally.specs.declared.Signal.{Signal}

-- Repairs.

-- one more of its bit
abbrev pub with_repair : List ℕ → Repair → List ℕ
with_repair counts Clean = counts
with_repair counts (Bit i) = one_more_at counts i

-- The first mark.

-- with a mark more
abbrev pub seen : First → First
seen Unseen = Other
seen InsideLine = InsideLine
seen Other = Other

-- a refused mark that is the first, and an end of line: the capture began inside a line
abbrev pub is_start : First → ℕ → Bool
is_start Unseen n = eqb n end_without_line
is_start InsideLine n = false
is_start Other n = false

-- Answers.

-- a mark's refusal numbers are below this
abbrev pub refusals : ℕ
refusals = 10

-- how many bits a line code has
abbrev pub code_width : ℕ
code_width = 8

-- nothing seen
abbrev pub fresh_signal : Signal
fresh_signal = record { first = Unseen; lines = 0; refused = replicate refusals 0; repaired = replicate code_width 0; spacing = no_periods }

-- a line: it is counted, and the repair of each of its codes
abbrev pub line_seen : Signal → LineFacts → Signal
line_seen s f =
    record {
      first = seen s.first;
      lines = one_more s.lines;
      refused = s.refused;
      repaired = with_repair (with_repair s.repaired f.start) f.end;
      spacing = s.spacing;
    }

-- a good gap: the period of its line
abbrev pub gap_seen : Signal → GapFacts → Signal
gap_seen s g =
    record {
      first = seen s.first;
      lines = s.lines;
      refused = s.refused;
      repaired = s.repaired;
      spacing = with_period s.spacing g.period;
    }

-- a refused mark
abbrev pub refusal_seen : Signal → ℕ → Signal
refusal_seen s n =
    record {
      first = seen s.first;
      lines = s.lines;
      refused = one_more_at s.refused n;
      repaired = s.repaired;
      spacing = s.spacing;
    }

-- a signal with another first mark
abbrev pub with_first : Signal → First → Signal
with_first s f = record { first = f; lines = s.lines; refused = s.refused; repaired = s.repaired; spacing = s.spacing }

-- an answer seen
unfoldable pub take_of : Signal → Answer → Signal
take_of s Nothing = s
take_of s (Line f) = line_seen s f
take_of s (Gap g) = gap_seen s g
take_of s (Refused r) = cond (is_start s.first r.0) (with_first s InsideLine) (refusal_seen s r.0)

-- The end of the capture.

-- finish's answer tells only that the end cut off a line (3) or a gap (9)
abbrev pub is_cut : Answer → Bool
is_cut Nothing = false
is_cut (Line f) = false
is_cut (Gap g) = false
is_cut (Refused r) = eqb r.0 unfinished_line || eqb r.0 bad_gap

-- a capture ends anywhere: such an answer is not counted
unfoldable pub close_of : Signal → Answer → Signal
close_of s last = cond (is_cut last) (with_first s (seen s.first)) (take_of s last)
