-- By the sort of the difference.
use Rattle.diff_summary.proofs.Numbers.{abs_diff_is}
use Rattle.diff_summary.proofs.Summary.count.Goals as goal

pub returns-in-First : goal.returns-in-First
returns-in-First c = simp (c.in-First.is, c.with.ensures, c.one_more.ensures)

pub returns-in-Second : goal.returns-in-Second
returns-in-Second c = simp (c.in-Second.is, c.with-in-Second.ensures, c.one_more-in-Second.ensures)

pub returns-in-Kinds : goal.returns-in-Kinds
returns-in-Kinds c = simp (c.in-Kinds.is, c.with-in-Kinds.ensures, c.one_more-in-Kinds.ensures)

pub returns-in-Bytes : goal.returns-in-Bytes
returns-in-Bytes c = simp (c.in-Bytes.is, c.pixel.ensures, c.abs_diff.ensures, abs_diff_is c.in-Bytes.x c.in-Bytes.y)
