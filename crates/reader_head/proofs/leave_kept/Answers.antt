-- Below eight nibbles none leaves the window; from there on the oldest is kept by its place, the count less eight.
use borrow.Author.Tests.{le-leb, lt-leb}
use Rattle.reader_head.specs.Head.{leave_kept}
use Rattle.reader_head.proofs.Window.{kept_nibble}
use Rattle.reader_head.proofs.leave_kept.Goals as goal

pub returns-then-h-lt-WINDOW : goal.returns-then-h-lt-WINDOW
unfolding leave_kept
returns-then-h-lt-WINDOW c = simp (lt-leb _ _ c.if-h-lt-WINDOW.true)

pub returns : goal.returns
unfolding leave_kept
returns c =
    simp (le-leb _ _ c.if-h-lt-WINDOW.false) (kept_nibble _ _ _ c.commit.ensures c.top.ensures)
