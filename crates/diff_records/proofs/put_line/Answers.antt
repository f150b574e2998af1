-- The four bytes before the body, and then the body, are the line whole.
use Rattle.text.specs.PutLaws.{then}
use Rattle.line_records.specs.Lines.{front_line}
use Rattle.diff_records.proofs.put_line.Goals as goal

pub returns : goal.returns
unfolding front_line
returns c =
    let given = c.requires in
    let put = c.put-body_at in
    simp (← given.1) (then put.ensures c.put.ensures)
