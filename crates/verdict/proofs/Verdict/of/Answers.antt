-- By the first mark.
use Rattle.verdict.specs.Verdict.{verdict_of}
use borrow.Author.Rules.{rules}
use Rattle.verdict.proofs.Verdict.of.Goals as goal

pub returns-in-Unseen : goal.returns-in-Unseen
unfolding verdict_of
returns-in-Unseen c = simp c.in-Unseen.is

pub returns-in-InsideLine : goal.returns-in-InsideLine
unfolding verdict_of
returns-in-InsideLine c = simp (c.in-InsideLine.is, c.by_frames.ensures)

pub returns-in-Other : goal.returns-in-Other
unfolding verdict_of
returns-in-Other c = simp (c.in-Other.is, c.by_frames-in-Other.ensures)
