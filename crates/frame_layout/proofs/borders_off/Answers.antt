-- Each profile's layout with borders off is the one written down for it.
use borrow.Author.Rules.{rules}
use Rattle.frame_layout.proofs.borders_off.Goals as goal

pub returns-in-VV5404 : goal.returns-in-VV5404
returns-in-VV5404 c = simp c.in-VV5404.is

pub returns-in-VV5300 : goal.returns-in-VV5300
returns-in-VV5300 c = simp c.in-VV5300.is
