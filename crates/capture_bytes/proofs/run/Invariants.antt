-- At each turn what is left brings what the whole does, and the line buffer is as lent; a portion that is answered or the last gives the whole, and any
-- other is taken whole, and blocks after it.
use mathlib.Core.Path.{◌≡◌}
use Prim.Native.Nat.{◌-◌, ◌*◌, ◌≤◌, ◌<◌}
use lib.ListN.{length}
use Rattle.capture_bytes.proofs.Portions.{Upto}
use Rattle.capture_bytes.proofs.run.Given as goal

abbrev pub invariant-loop-most : goal.invariant-loop-most
invariant-loop-most l =
    (Upto l.initial.head l.initial.body l.bytes l.initial.line l.from l.at l.head l.body l.line) × (length l.body ≡ length l.initial.body) × (length l.line ≡ length l.initial.line) × (0 < l.most) × (l.most ≤ 64)
    × (l.at - l.from ≤ 2 * length l.bytes - l.from)

-- the nibbles left
abbrev pub decreases-loop-most : goal.decreases-loop-most
decreases-loop-most l = 2 * length l.bytes - l.at
