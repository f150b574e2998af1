-- Where the test passes the window is emptied and the mark answered with what is then kept; else 11, and nothing moves.
use Rattle.reader.specs.Reader.{finish_of}
use Rattle.reader.proofs.Reader.finish.Goals as goal

pub returns-then-passes : goal.returns-then-passes
unfolding finish_of
returns-then-passes c =
    let v = c.passes.ensures in
    let t = c.if-passes.true in
    record {
      next = simp (← v, t, c.fresh-reader.ensures);
      says = simp (← v, t, c.at_finish-answer.ensures, c.flush-g.ensures);
    }

pub returns : goal.returns
unfolding finish_of
returns c =
    record { next = simp (← c.passes.ensures, c.if-passes.false); says = simp (← c.passes.ensures, c.if-passes.false) }
