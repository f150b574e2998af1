-- The last line leaves room for the report after it; the two, end to end, are the buffer's front.
use mathlib.Core.Path.{refl}
use native.Mathlib.Omega.{arith}
use borrow.Author.Tests.{lt-ltb, le-ltb}
use Rattle.text.specs.PutLaws.{joined, on_front_lem, put_length}
use Rattle.list_frames.specs.FrameLister.{finished_of}
use Rattle.list_news.specs.NewsLinesLaws.{news_short}
use borrow.Author.Rules.{rules}
use Rattle.list_frames.proofs.FrameLister.finish.Goals as goal

pub returns-then-out-lt-END : goal.returns-then-out-lt-END
unfolding finished_of
returns-then-out-lt-END c = simp (lt-ltb _ _ c.if-out-lt-END.true) (record { next = refl; leaves = refl })

pub put_findings-used-requires : goal.put_findings-used-requires
put_findings-used-requires c =
    omega (
      arith,
      c.if-out-lt-END.false,
      c.put_news-at.ensures.place,
      put_length c.put_news-at.ensures,
      news_short c.close-found.result.news,
    )

pub returns : goal.returns
unfolding finished_of
returns c =
    let p = on_front_lem (joined c.put_news-at.ensures c.put_findings-used.ensures) in
    simp (le-ltb _ _ c.if-out-lt-END.false, ← c.is_lost-lost.ensures, ← c.finish-fed.ensures.next, ← c.finish-fed.ensures.says, ← c.close-found.ensures, c.new-findings.ensures)
    (record { next = simp p.count; leaves = p.leaves })
