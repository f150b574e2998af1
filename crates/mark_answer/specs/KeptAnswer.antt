-- The answer of a mark, from its text's length and what is kept of it. It is derived: `stored_answer` in refinement/specs/Stored.antt shows that it is
-- the answer of stream/specs/Answers.antt from the text itself, which `table` in recovery/proofs/AnswerTableLaws.antt ties to 01's table.
use Rattle.std.specs.Prelude.{List, ℕ}
use Rattle.std.proofs.Math.Option.{Option, none, some}
use Rattle.refusal.specs.Refusal.{damaged_code, reserved_code, unfinished_line}
use Rattle.line_code.specs.declared.Meaning.{Meaning}
use Rattle.line_code.specs.declared.Meaning.TheVariants.{EndOfLine, Line, ReservedEC, ReservedF1}
use Rattle.line_code.specs.declared.Reading.{Reading}
use Rattle.line_code.specs.declared.Reading.TheVariants.{Says, Damaged}
use Rattle.line_code.specs.declared.Repair.{Repair}
use Rattle.line_code.specs.LineCode.{reading_of}
use Rattle.profile.specs.declared.Profile.{Profile}
use Rattle.stream.specs.declared.Before.{Before}
use Rattle.stream.specs.declared.Mark.{Mark}
use Rattle.stream.specs.declared.Mark.TheVariants.{NoMark, Open}
use Rattle.stream.specs.Answers.{Outcome, nothing, refused, period_of}
use Rattle.mark_text.specs.declared.Kept.{Kept}
use Rattle.gap_answer.specs.KeptGap.{kept_end}
use Rattle.line_answer.specs.KeptLine.{kept_line}

-- by what the code says: an end mark by its gap, a line by its text, or 3 at finish; 2
abbrev pub kept_by_meaning : Profile → Before → Meaning → Repair → ℕ → Kept → List ℕ → Option ℕ → Outcome
kept_by_meaning p before EndOfLine r len t body next = kept_end p before (period_of p before len next) len t
kept_by_meaning p before (Line k) r len t body none = refused unfinished_line
kept_by_meaning p before (Line k) r len t body (some next) = kept_line p k r len t body (reading_of next)
kept_by_meaning p before ReservedEC r len t body next = refused reserved_code
kept_by_meaning p before ReservedF1 r len t body next = refused reserved_code

-- 1, or by what the code says
abbrev pub kept_by_reading : Profile → Before → Reading → ℕ → Kept → List ℕ → Option ℕ → Outcome
kept_by_reading p before (Says m r) len t body next = kept_by_meaning p before m r len t body next
kept_by_reading p before Damaged len t body next = refused damaged_code

-- the open mark's answer, if there is one; at finish no body is looked at
unfoldable pub kept_answer : Profile → Mark → ℕ → Kept → List ℕ → Option ℕ → Outcome
kept_answer p NoMark len t body next = nothing
kept_answer p (Open before code) len t body next = kept_by_reading p before (reading_of code) len t body next
