-- By the borders: borders_on and borders_off promise the two layouts.
use borrow.Author.Rules.{rules}
use Rattle.frame_layout.proofs.Borders.layout.Goals as goal

pub returns-in-On : goal.returns-in-On
returns-in-On c = simp (c.in-On.is, c.borders_on.ensures)

pub returns-in-Off : goal.returns-in-Off
returns-in-Off c = simp (c.in-Off.is, c.borders_off.ensures)
