-- Each answer has its row; none is due where there is no answer.
use Rattle.std.proofs.Common.{rules}
use Rattle.text.specs.PagesLaws.{nothing}
use Rattle.list_rows.specs.Rows.{row_of}
use Rattle.list_rows.proofs.put_row.Goals as goal

pub returns-in-Nothing : goal.returns-in-Nothing
unfolding row_of
returns-in-Nothing c = simp c.in-Nothing.is (nothing _)

pub returns-in-Line : goal.returns-in-Line
unfolding row_of
returns-in-Line c = simp c.in-Line.is c.line_row.ensures

pub returns-in-Gap : goal.returns-in-Gap
unfolding row_of
returns-in-Gap c = simp c.in-Gap.is c.gap_row.ensures

pub returns-in-Refused : goal.returns-in-Refused
unfolding row_of
returns-in-Refused c = simp c.in-Refused.is c.refused_row.ensures
