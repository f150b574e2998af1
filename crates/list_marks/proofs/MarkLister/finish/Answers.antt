-- With room for a row, the last mark's row stands at the buffer's front.
use mathlib.Core.Path.{refl}
use borrow.Author.Tests.{lt-ltb, le-ltb}
use Rattle.text.specs.PutLaws.{on_front_lem}
use Rattle.list_marks.specs.MarkLister.{finished_of}
use borrow.Author.Rules.{rules}
use Rattle.list_marks.proofs.MarkLister.finish.Goals as goal

pub returns-then-out-lt-ROW : goal.returns-then-out-lt-ROW
unfolding finished_of
returns-then-out-lt-ROW c = simp (lt-ltb _ _ c.if-out-lt-ROW.true) (record { next = refl; leaves = refl })

pub returns : goal.returns
unfolding finished_of
returns c =
    let p = on_front_lem c.put_row-used.ensures in
    simp (le-ltb _ _ c.if-out-lt-ROW.false, ← c.finish-fed.ensures.next, ← c.finish-fed.ensures.says, ← c.with_mark-marks.ensures)
    (record { next = simp p.count; leaves = p.leaves })
