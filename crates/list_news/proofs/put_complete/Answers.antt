-- The parts of the line, one after another.
use borrow.Author.Rules.{rules}
use Rattle.text.specs.PagesLaws.{next}
use Rattle.list_news.specs.NewsLines.{complete_line}
use Rattle.list_news.proofs.put_complete.Goals as goal

pub returns : goal.returns
unfolding complete_line
returns c =
    next c.put_frame.ensures (next c.put.ensures (next c.put_borders.ensures (next c.put-2.ensures c.put_decimal.ensures)))
