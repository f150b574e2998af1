-- The layout has it.
use borrow.Author.Rules.{rules}
use Rattle.frame_layout.proofs.Borders.end_place.Goals as goal

pub returns : goal.returns
returns c = simp c.layout-layout.ensures
