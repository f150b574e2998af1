-- The rows of the bytes from a place on are left to write; each turn writes that of the difference there, and passes it.
use mathlib.Core.Path.{ap}
use Prim.Native.Nat.{◌+◌}
use native.Mathlib.Omega.{arith}
use borrow.Author.Rules.{rules}
use Rattle.line_records.proofs.LinesLaws.{lent_from}
use Rattle.diff_records.specs.ReadBack.{front_size}
use Rattle.diff_change.specs.FrontLaws.{size_some}
use Rattle.diff_change_row.specs.ChangeRow.{change_row}
use Rattle.diff_rows.specs.RowsLaws.{rows_at, rows_over}
use Rattle.diff_rows.proofs.LeftLaws.{left_all, left_put, left_none, writes_is}
use Rattle.diff_rows.proofs.put_rows.Goals as goal

pub loop-i-init : goal.loop-i-init
loop-i-init c = (search rules, left_all _ _)

pub returns-then-rest-size : goal.returns-then-rest-size
returns-then-rest-size c =
    let l = c.loop-i in
    let records = c.args.records.now in
    let step = rows_at records l.i c.loop-i-test.true in
    left_none _ (rows_over records (l.i + front_size (lent_from records l.i)) (omega (arith, c.if-rest-size.true, c.front_size-size.ensures)))
    (left_put _ _ _ step l.invariant.1 (writes_is (ap change_row c.front.ensures) c.put_row.ensures))

pub loop-i-smaller : goal.loop-i-smaller
loop-i-smaller c =
    let records = c.args.records.now in
    omega (arith, c.front_size-size.ensures, size_some (lent_from records c.loop-i.i), c.loop-i-test.true)

pub loop-i-preserved : goal.loop-i-preserved
loop-i-preserved c =
    let l = c.loop-i in
    let records = c.args.records.now in
    let step = rows_at records l.i c.loop-i-test.true in
    let size = c.front_size-size.ensures in
    (search rules, simp size (left_put _ _ _ step l.invariant.1 (writes_is (ap change_row c.front.ensures) c.put_row.ensures)))

pub returns : goal.returns
returns c =
    let l = c.loop-i in
    left_none _ (rows_over c.args.records.now l.i c.loop-i-test.false) l.invariant.1
