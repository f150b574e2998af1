-- What exported calls take and answer, as numbers: answers of a reader, judges of frames, and their rulings.
use Rattle.std.specs.Prelude.{cond, ℕ, ◌+◌, ◌*◌, ◌%◌, eqb, ltb, None, Option, Some}
use Rattle.exported_call.specs.LentCall.{bit_of}
use Rattle.line_code.specs.LineCode.{kind_number, repair_number}
use Rattle.stream.specs.declared.Answer.{Answer}
use Rattle.stream.specs.declared.Answer.TheVariants as answers
use Rattle.stream.specs.Answers.{either_repaired}
use Rattle.frame_layout.specs.declared.Borders.TheVariants.{On, Off}
use Rattle.frame_judge.specs.declared.Judge.{Judge}
use Rattle.frame_judge.specs.declared.Judge.TheVariants as judge
use Rattle.frame_judge.specs.declared.Ruling.{Ruling}
use Rattle.frame_judge.specs.declared.Ruling.TheVariants as ruling
use Rattle.frame_layout.specs.declared.Borders.{Borders}

-- a refusal as it is; a line and a good gap with their parts, each at a place of its own
abbrev pub answer_number : Answer → ℕ
answer_number answers.Nothing = 0
answer_number (answers.Line f) =
    0x1000000000000 * repair_number f.end + 0x100000000 * repair_number f.start + 0x1000000 + 0x80000 * bit_of (either_repaired f) + 0x10000 * kind_number f.kind
    + f.number
answer_number (answers.Gap g) = 0x100000000 * g.period.0 + 0x2000000 + 0x100 * g.first + g.second
answer_number (answers.Refused r) = r.0

-- a judge as a number: 0 while it waits, else the place that is due, 2^16 more once borders are on, and 2^17 more once they are off
abbrev pub judge_number : Judge → ℕ
judge_number judge.Waiting = 0
judge_number (judge.Due place None) = place
judge_number (judge.Due place (Some On)) = 0x10000 + place
judge_number (judge.Due place (Some Off)) = 0x20000 + place

-- the border setting in a judge's number: above its low sixteen bits
abbrev pub borders_numbered : ℕ → Option Borders
borders_numbered n = cond (ltb n 0x10000) None (Some (cond (ltb n 0x20000) On Off))

-- the judge that a number tells: 0 waits, any other has the place due in its low sixteen bits
unfoldable pub judge_numbered : ℕ → Judge
judge_numbered n = cond (eqb n 0) judge.Waiting (judge.Due (n % 0x10000) (borders_numbered n))

-- a ruling as the number of an answer
abbrev pub ruling_number : Ruling → ℕ
ruling_number ruling.Waiting = 0
ruling_number ruling.Going = 1
ruling_number ruling.Complete = 2
ruling_number (ruling.Refused r) = r.0
