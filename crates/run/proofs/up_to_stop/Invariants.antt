-- At each turn the run from here on is the run from the start and the buffer is as lent; a turn takes one nibble and the pairs after it.
use mathlib.Core.Path.{◌≡◌}
use Prim.Native.Nat.{◌-◌, ◌≤◌}
use lib.ListN.{length}
use Rattle.profile.specs.Profile.{longest}
use Rattle.run.specs.Parts.{Leads}
use Rattle.run.proofs.up_to_stop.Given as goal

abbrev pub invariant-loop-i : goal.invariant-loop-i
invariant-loop-i l = (Leads l.nibbles l.initial.h l.initial.body l.initial.i l.h l.body l.i) × (l.i ≤ length l.nibbles) × (l.buffer ≡ l.initial.buffer) × (length l.body ≡ longest) × (l.h.profile ≡ l.initial.h.profile)

abbrev pub decreases-loop-i : goal.decreases-loop-i
decreases-loop-i l = length l.nibbles - l.i
