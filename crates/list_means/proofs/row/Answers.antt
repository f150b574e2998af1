-- A row is never longer than the room asked for, so it is put whole.
use Rattle.std.proofs.Common.{le_trans, rules}
use Rattle.text.specs.PagesLaws.{at_front}
use Rattle.mean_rows.specs.MeanRowsLaws.{row_short}
use Rattle.list_means.proofs.row.Goals as goal

pub returns : goal.returns
returns c =
    let a = c.args in
    search (rules, at_front c.new-page.ensures c.put_row.ensures (le_trans (row_short a.number a.first a.second a.halves) c.requires))
