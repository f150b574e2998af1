-- News has its words and a newline; nothing new has none.
use Rattle.std.proofs.Common.{rules}
use Rattle.text.specs.PagesLaws.{next, nothing}
use Rattle.list_news.specs.NewsLines.{news_line}
use Rattle.list_news.proofs.put_line.Goals as goal

pub returns-in-Nothing : goal.returns-in-Nothing
unfolding news_line
returns-in-Nothing c = simp c.in-Nothing.is (nothing _)

pub returns-in-Complete : goal.returns-in-Complete
unfolding news_line
returns-in-Complete c = simp c.in-Complete.is (next c.put_complete.ensures c.put.ensures)

pub returns-in-Broken : goal.returns-in-Broken
unfolding news_line
returns-in-Broken c = simp c.in-Broken.is (next c.put_broken.ensures c.put-in-Broken.ensures)

pub returns-in-Cut : goal.returns-in-Cut
unfolding news_line
returns-in-Cut c = simp c.in-Cut.is (next c.put_frame.ensures c.put-in-Cut.ensures)
