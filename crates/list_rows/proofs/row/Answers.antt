-- A row fits in ROW bytes, so it is put whole at the front; in less room nothing is put.
use Rattle.std.proofs.Common.{refl, le_trans, rules}
use borrow.Author.Tests.{lt-ltb, le-ltb}
use Rattle.text.specs.PagesLaws.{at_front}
use Rattle.list_rows.specs.Rows.{row_if_room}
use Rattle.list_rows.specs.RowLaws.{row_short}
use Rattle.list_rows.proofs.row.Goals as goal

pub returns-then-out-lt-ROW : goal.returns-then-out-lt-ROW
unfolding row_if_room
returns-then-out-lt-ROW c = simp (lt-ltb _ _ c.if-out-lt-ROW.true) (record { count = refl; leaves = refl })

pub returns : goal.returns
unfolding row_if_room
returns c =
    let room = c.if-out-lt-ROW.false in
    simp (le-ltb _ _ room)
    (search (rules, at_front c.new-page.ensures c.put_row.ensures (le_trans (row_short c.args.mark c.args.answer) room)))
