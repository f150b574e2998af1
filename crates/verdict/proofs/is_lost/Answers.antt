-- By the mark; an open one by the count of its text.
use Rattle.verdict.specs.Verdict.{is_lost}
use borrow.Author.Rules.{rules}
use Rattle.verdict.proofs.is_lost.Goals as goal

pub returns-in-NoMark : goal.returns-in-NoMark
unfolding is_lost
returns-in-NoMark c = simp c.in-NoMark.is

pub returns-in-Open : goal.returns-in-Open
unfolding is_lost
returns-in-Open c = simp (c.in-Open.is, c.most_text.ensures)
