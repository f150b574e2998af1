-- The words of each sort of difference, one after another.
use Rattle.text.specs.PagesLaws.{next}
use Rattle.diff_change_row.specs.ChangeRow.{change_row}
use Rattle.diff_change_row.proofs.put_row.Goals as goal

pub returns-in-First : goal.returns-in-First
unfolding change_row
returns-in-First c =
    let sort = c.in-First.is in
    let line = c.put_line.ensures in
    simp (sort) (next line c.put.ensures)

pub returns-in-Second : goal.returns-in-Second
unfolding change_row
returns-in-Second c =
    let sort = c.in-Second.is in
    let line = c.put_line-in-Second.ensures in
    simp (sort) (next line c.put-in-Second.ensures)

pub returns-in-Kinds : goal.returns-in-Kinds
unfolding change_row
returns-in-Kinds c =
    let sort = c.in-Kinds.is in
    let line = c.put_line-in-Kinds.ensures in
    simp (sort) (next line (next c.put-in-Kinds.ensures c.put_kinds.ensures))

pub returns-in-Bytes : goal.returns-in-Bytes
unfolding change_row
returns-in-Bytes c =
    let sort = c.in-Bytes.is in
    let line = c.put_line-in-Bytes.ensures in
    let pixel = c.put-in-Bytes.ensures in
    simp (sort) (next line (next pixel (next c.put_decimal.ensures c.put_pair.ensures)))
