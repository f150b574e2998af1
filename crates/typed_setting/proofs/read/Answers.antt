-- Each sensor's own settings, by the match on which it is.
use borrow.Author.Rules.{rules}
use Rattle.typed_setting.proofs.read.Goals as goal

pub returns-in-VV5404 : goal.returns-in-VV5404
returns-in-VV5404 c = simp (c.in-VV5404.is, c.read_vv5404.ensures)

pub returns-in-VV5300 : goal.returns-in-VV5300
returns-in-VV5300 c = simp (c.in-VV5300.is, c.read_vv5300.ensures)
