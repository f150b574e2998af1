-- Eight nibbles back, and one mark more.
use borrow.Author.Rules.{rules}
use Rattle.mark_finder.proofs.Finder.open_next.Goals as goal

pub returns : goal.returns
returns c = simp (c.further-place.ensures, c.one_more-number.ensures, c.less-start.ensures)
