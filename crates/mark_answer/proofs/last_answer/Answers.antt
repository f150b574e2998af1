-- At finish an end of line has no period, and a line that no mark follows is unfinished, whatever was repaired of its code.
use borrow.Author.Rules.{rules}
use Rattle.mark_answer.proofs.ByReading.{no_period}
use Rattle.mark_answer.proofs.last_answer.Goals as goal

pub returns-in-EndOfLine : goal.returns-in-EndOfLine
returns-in-EndOfLine c = λ r.
    let a = c.args in
    simp (c.in-EndOfLine.is, c.end_answer.ensures, no_period a.profile a.before a.length)

pub returns-in-Line : goal.returns-in-Line
returns-in-Line c = λ r. simp c.in-Line.is

pub returns-in-ReservedEC : goal.returns-in-ReservedEC
returns-in-ReservedEC c = λ r. simp c.in-ReservedEC.is

pub returns-in-ReservedF1 : goal.returns-in-ReservedF1
returns-in-ReservedF1 c = λ r. simp c.in-ReservedF1.is
