-- At each turn the first i bytes are those of the source and the rest is as it was.
use mathlib.Core.Path.{◌≡◌}
use lib.ListN.{length}
use Rattle.reader.specs.Parts.{copied}
use Rattle.reader.proofs.copy_front.Given as goal

abbrev pub invariant-loop-i : goal.invariant-loop-i
invariant-loop-i l = (l.to ≡ copied l.initial.to l.from l.i) × (length l.to ≡ length l.initial.to)
