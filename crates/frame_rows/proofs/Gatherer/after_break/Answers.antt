-- A judge that waits keeps no rows; one that does not has opened a frame with this line, whose row is the first.
use borrow.Author.Rules.{rules}
use Rattle.frame_rows.specs.FrameRows.{after_break}
use Rattle.frame_rows.proofs.Answering.{gives, quietly, opens_anew}
use Rattle.frame_rows.proofs.Gatherer.after_break.Goals as goal

pub returns-in-Waiting : goal.returns-in-Waiting
unfolding after_break
returns-in-Waiting c = gives _ _ _ _ _ (quietly c.quiet.ensures c.moved.ensures) (simp c.in-Waiting.is)

pub returns-in-Due : goal.returns-in-Due
returns-in-Due c = simp (opens_anew c.in-Due.is) c.keep_row.ensures
