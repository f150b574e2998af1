-- A row is never longer than the room asked for, so it is put whole at the place.
use Rattle.std.proofs.Common.{arith}
use Rattle.mean_rows.specs.MeanRowsLaws.{row_short}
use Rattle.lister_laws.specs.PartLaws.{part_front}
use Rattle.list_means.proofs.put_row.Goals as goal

pub returns : goal.returns
returns c =
    let a = c.args in
    part_front _ _ _ _ _ (omega (arith, c.requires, row_short a.number a.first a.second a.halves)) c.row.ensures
