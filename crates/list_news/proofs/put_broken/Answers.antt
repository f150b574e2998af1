-- The parts of the line, one after another.
use borrow.Author.Rules.{rules}
use Rattle.text.specs.PagesLaws.{next}
use Rattle.list_news.specs.NewsLines.{broken_line_of}
use Rattle.list_news.proofs.put_broken.Goals as goal

pub returns : goal.returns
unfolding broken_line_of
returns c =
    next c.put_frame.ensures
    (next c.put.ensures
    (next c.put_decimal.ensures (next c.put-2.ensures (next c.put_decimal-2.ensures c.put_reason.ensures))))
