-- The line of a frame's news is at most a row long, so it has room, and is put whole at the place.
use native.Mathlib.Omega.{arith}
use Rattle.list_news.specs.NewsLinesLaws.{news_short}
use Rattle.list_news.specs.NewsLines.{news_if_room, news_room}
use Rattle.lister_laws.specs.PartLaws.{part_put}
use borrow.Author.Rules.{rules}
use Rattle.list_frames.proofs.put_news.Goals as goal

pub returns : goal.returns
unfolding news_if_room
returns c = part_put news_room _ _ _ _ _ c.requires (news_short c.args.news) c.news.ensures.count c.news.ensures.leaves
