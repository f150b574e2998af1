-- At each turn the nibbles of the bytes so far are stored, two places a byte, so there is room for the rest; the bytes left fall.
use mathlib.Core.Path.{◌≡◌}
use Prim.Native.Nat.{◌+◌, ◌*◌}
use lib.ListN.{take}
use Rattle.writer.specs.Parts.{PutNibbles}
use Rattle.writer.proofs.put_bytes.Given as goal

abbrev pub invariant-loop-byte : goal.invariant-loop-byte
invariant-loop-byte l = (l.place ≡ l.at + 2 * l.byte-index) × PutNibbles (take l.byte-index l.bytes) l.initial.buffer l.at l.place l.buffer
