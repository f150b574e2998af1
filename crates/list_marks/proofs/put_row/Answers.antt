-- A mark's row is never longer than the room asked for, so it is put whole at the place.
use native.Mathlib.Omega.{arith}
use borrow.Author.Rules.{rules}
use Rattle.list_rows.specs.RowLaws.{row_short}
use Rattle.list_rows.specs.Rows.{row_if_room, row_room}
use Rattle.lister_laws.specs.PartLaws.{part_put}
use Rattle.list_marks.proofs.put_row.Goals as goal

pub returns : goal.returns
unfolding row_if_room
returns c = let a = c.args in part_put row_room _ _ _ _ _ c.requires (row_short a.mark a.answer) c.row.ensures.count c.row.ensures.leaves
