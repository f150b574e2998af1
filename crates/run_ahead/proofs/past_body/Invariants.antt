-- At each turn the run from here on is the run from the start; past the body only a stray nibble is noted, and the places left fall.
use Prim.Native.Nat.{◌-◌}
use Rattle.run_ahead.proofs.Turns.{Passing}
use Rattle.run_ahead.proofs.past_body.Given as goal

abbrev pub invariant-loop-stray : goal.invariant-loop-stray
invariant-loop-stray l = Passing l.s l.from l.h.profile l.h.at l.h.kept l.end l.initial.count l.initial.window l.initial.stray l.count l.window l.stray l.i l.wait

abbrev pub decreases-loop-stray : goal.decreases-loop-stray
decreases-loop-stray l = l.end - l.i
