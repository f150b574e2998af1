-- A line fits in ROOM bytes, so it is put whole at the front; in less room nothing is put.
use Rattle.std.proofs.Common.{refl, le_trans, rules}
use borrow.Author.Tests.{lt-ltb, le-ltb}
use Rattle.text.specs.PagesLaws.{at_front}
use Rattle.list_news.specs.NewsLines.{news_if_room}
use Rattle.list_news.specs.NewsLinesLaws.{news_short}
use Rattle.list_news.proofs.news.Goals as goal

pub returns-then-out-lt-ROOM : goal.returns-then-out-lt-ROOM
unfolding news_if_room
returns-then-out-lt-ROOM c = simp (lt-ltb _ _ c.if-out-lt-ROOM.true) (record { count = refl; leaves = refl })

pub returns : goal.returns
unfolding news_if_room
returns c =
    let room = c.if-out-lt-ROOM.false in
    simp (le-ltb _ _ room)
    (search (rules, at_front c.new-page.ensures c.put_line.ensures (le_trans (news_short c.args.news) room)))
