-- The first row fits in ROW bytes, so it is put whole at the front; in less room nothing is put.
use Rattle.std.proofs.Common.{refl, arith, rules}
use borrow.Author.Tests.{lt-ltb, le-ltb}
use Rattle.text.specs.PagesLaws.{at_front}
use Rattle.list_rows.specs.Rows.{row_if_room}
use Rattle.list_rows.proofs.header.Goals as goal

pub returns-then-out-lt-ROW : goal.returns-then-out-lt-ROW
unfolding row_if_room
returns-then-out-lt-ROW c = simp (lt-ltb _ _ c.if-out-lt-ROW.true) (record { count = refl; leaves = refl })

pub returns : goal.returns
unfolding row_if_room
returns c =
    simp (le-ltb _ _ c.if-out-lt-ROW.false)
    (search (rules, at_front c.new-page.ensures c.put.ensures (omega (arith, c.if-out-lt-ROW.false))))
