-- Nibble after nibble: all before the place reached are F; another ends it.
use mathlib.Core.Path.{◌≡◌}
use lib.ListN.{drop}
use Rattle.reason.specs.Explanation.{stray_reason}
use Rattle.reason.proofs.stray_reason.Given as goal

abbrev pub invariant-loop-i : goal.invariant-loop-i
invariant-loop-i l = stray_reason (drop l.from l.gap) l.from ≡ stray_reason (drop l.i l.gap) l.i
