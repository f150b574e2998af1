-- By what the code says: an end by its gap, with its line's period, a line by its text; both reserved codes are refused with 2.
use borrow.Author.Rules.{rules}
use Rattle.mark_answer.proofs.meaning_answer.Goals as goal

pub returns-in-EndOfLine : goal.returns-in-EndOfLine
returns-in-EndOfLine c =
    let a = c.args in
    simp (c.in-EndOfLine.is, c.end_answer.ensures, c.line_period-period.ensures a.next)

pub returns-in-Line : goal.returns-in-Line
returns-in-Line c = simp (c.in-Line.is, c.line_answer.ensures)

pub returns-in-ReservedEC : goal.returns-in-ReservedEC
returns-in-ReservedEC c = simp c.in-ReservedEC.is

pub returns-in-ReservedF1 : goal.returns-in-ReservedF1
returns-in-ReservedF1 c = simp c.in-ReservedF1.is
