-- With room for a row, the last mark's row stands at the buffer's front.
use mathlib.Core.Path.{refl}
use borrow.Author.Tests.{lt-ltb, le-ltb}
use Rattle.text.specs.PutLaws.{on_front_lem}
use Rattle.list_means.specs.MeanLister.{finished_of}
use borrow.Author.Rules.{rules}
use Rattle.list_means.proofs.MeanLister.finish.Goals as goal

pub returns-then-out-lt-ROOM : goal.returns-then-out-lt-ROOM
unfolding finished_of
returns-then-out-lt-ROOM c = simp (lt-ltb _ _ c.if-out-lt-ROOM.true) (record { next = refl; leaves = refl })

pub returns : goal.returns
unfolding finished_of
returns c =
    let p = on_front_lem c.put_text-used.ensures in
    simp (le-ltb _ _ c.if-out-lt-ROOM.false, ← c.finish-fed.ensures.next, ← c.finish-fed.ensures.says)
    (record { next = simp p.count; leaves = p.leaves })
