-- The word, then the frame's number.
use borrow.Author.Rules.{rules}
use Rattle.text.specs.PagesLaws.{next}
use Rattle.list_news.proofs.put_frame.Goals as goal

pub returns : goal.returns
returns c = next c.put.ensures c.put_decimal.ensures
