-- Each part by its own function.
use Rattle.diff_summary.proofs.Numbers.{max_is}
use Rattle.diff_summary.proofs.Summary.pixel.Goals as goal

pub returns : goal.returns
returns c = simp (c.one_more-pixels.ensures, c.lines_with-lines.ensures, c.least_with-least.ensures, c.max-most.ensures, max_is c.args.self.most c.args.by)
