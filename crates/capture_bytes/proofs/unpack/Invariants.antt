-- At each turn the nibbles of the bytes so far stand at the front, and the rest is as it was.
use mathlib.Core.Path.{◌≡◌}
use Prim.Native.Nat.{◌*◌, ◌≤◌}
use lib.ListN.{length}
use Rattle.capture_bytes.specs.Unpacked.{unpacked}
use Rattle.capture_bytes.proofs.unpack.Given as goal

abbrev pub invariant-loop-i : goal.invariant-loop-i
invariant-loop-i l = (l.n ≤ length l.bytes) × (2 * l.n ≤ length l.to) × (l.to ≡ unpacked l.bytes l.initial.to l.i) × (length l.to ≡ length l.initial.to)
