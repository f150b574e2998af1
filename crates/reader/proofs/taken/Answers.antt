-- The oldest nibble leaves the window first; then a mark is complete, and answered with the body as it then is, or the window slides.
use Rattle.reader.specs.Reader.{take_head, take_outcome}
use Rattle.reader.proofs.taken.Goals as goal

pub returns : goal.returns
unfolding take_head take_outcome
returns c =
    let s = c.slide-newest.ensures in
    let m = c.is_mark.ensures in
    let t = c.if-is_mark.false in
    record {
      next = simp (← s, ← m, t, c.shift-head.ensures);
      keeps = c.leave_body.ensures;
      says = simp (← s, ← m, t);
      leaves = simp (← s, ← m, t);
    }

pub returns-then-is_mark : goal.returns-then-is_mark
unfolding take_head take_outcome
returns-then-is_mark c =
    let s = c.slide-newest.ensures in
    let m = c.is_mark.ensures in
    let t = c.if-is_mark.true in
    let e = c.complete.ensures in
    let b = c.leave_body.ensures in
    record {
      next = simp (← s, ← m, t, e.next, b);
      keeps = b;
      says = simp (← s, ← m, t, e.says, b);
      leaves = simp (← s, ← m, t, e.leaves, b);
    }
