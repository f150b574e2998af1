-- Each byte adds at most one; where none added any, no mark begins.
use mathlib.Core.Path.{◌≡◌}
use Prim.Native.Nat.{◌≤◌}
use Rattle.capture_bytes.specs.Packed.{NoneBegins}
use Rattle.capture_bytes.proofs.beginnings.Given as goal

abbrev pub invariant-loop-k : goal.invariant-loop-k
invariant-loop-k l = (l.count ≤ l.k) × (l.count ≡ 0 → NoneBegins l.bytes l.i l.k)
