-- By the line's kind: only a visible line's gap is awaited.
use borrow.Author.Rules.{rules}
use Rattle.mean_gap.proofs.after_line.Goals as goal

pub returns-in-VL : goal.returns-in-VL
returns-in-VL c = simp c.in-VL.is
