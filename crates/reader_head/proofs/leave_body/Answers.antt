-- Below eight nibbles none leaves the window; from there on the oldest is stored at its place, the count less eight.
use borrow.Author.Tests.{le-leb, lt-leb}
use Rattle.reader_head.specs.Head.{leave_body}
use Rattle.reader_head.proofs.Window.{body_nibble}
use Rattle.reader_head.proofs.leave_body.Goals as goal

pub returns-then-h-lt-WINDOW : goal.returns-then-h-lt-WINDOW
unfolding leave_body
returns-then-h-lt-WINDOW c = simp (lt-leb _ _ c.if-h-lt-WINDOW.true)

pub returns : goal.returns
unfolding leave_body
returns c =
    let test = c.if-h-lt-WINDOW in
    simp (le-leb _ _ test.false) (body_nibble _ _ c.store.ensures c.top.ensures)
