-- At each turn the lengths are equal, and the whole body fits exactly where the bytes left fit the rules left; the bytes left fall.
use mathlib.Core.Path.{◌≡◌}
use lib.ListN.{length, drop}
use Rattle.profile.specs.Layout.{rules, fits}
use Rattle.line_layout.proofs.body_fits.Given as goal

abbrev pub invariant-loop-i : goal.invariant-loop-i
invariant-loop-i l = (length l.body ≡ length (rules l.profile l.kind)) × (fits (rules l.profile l.kind) l.body ≡ fits (drop l.i (rules l.profile l.kind)) (drop l.i l.body))
