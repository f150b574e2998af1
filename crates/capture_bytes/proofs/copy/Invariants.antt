-- At each turn one byte more is at its place.
use mathlib.Core.Path.{◌≡◌}
use Prim.Native.Nat.{◌+◌, ◌*◌}
use lib.ListN.{length}
use Rattle.stream.specs.Written.{nibbles}
use Rattle.capture_bytes.specs.Packed.{packed_into}
use Rattle.capture_bytes.proofs.copy.Given as goal

abbrev pub invariant-loop-k : goal.invariant-loop-k
invariant-loop-k l = (l.body ≡ packed_into l.initial.body l.j (nibbles l.bytes) (2 * l.i + l.odd) l.k) × (length l.body ≡ length l.initial.body)
