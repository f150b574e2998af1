-- Each byte adds at most one; where none added any, all are FF.
use mathlib.Core.Path.{◌≡◌}
use Prim.Native.Nat.{◌≤◌}
use Rattle.capture_bytes.specs.Packed.{AllNull}
use Rattle.capture_bytes.proofs.strays.Given as goal

abbrev pub invariant-loop-byte : goal.invariant-loop-byte
invariant-loop-byte l = (l.count ≤ l.byte-index) × (l.count ≡ 0 → AllNull l.bytes l.i l.byte-index)
