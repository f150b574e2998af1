-- At each turn the run from here on is the run from the start; the byte that leaves the window goes to its place of the body, and so do a block's bytes;
-- the places left fall.
use Prim.Native.Nat.{◌-◌}
use Rattle.run_ahead.proofs.Turns.{Filling}
use Rattle.run_ahead.proofs.in_body.Given as goal

abbrev pub invariant-loop-b : goal.invariant-loop-b
invariant-loop-b l = Filling l.initial.body l.s l.from l.h.profile l.h.at l.h.kept l.place l.end l.initial.window l.initial.stray l.body l.window l.stray l.j l.i l.wait

abbrev pub decreases-loop-b : goal.decreases-loop-b
decreases-loop-b l = l.end - l.i
