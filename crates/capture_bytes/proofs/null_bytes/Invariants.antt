-- At each turn the bytes that are passed are as the test says; then fewer are left, or the blocks are smaller.
use Prim.Native.Nat.{◌+◌, ◌-◌, ◌≤◌}
use Rattle.capture_bytes.specs.Packed.{AllNull}
use Rattle.capture_bytes.proofs.null_bytes.Given as goal

abbrev pub invariant-loop-block : goal.invariant-loop-block
invariant-loop-block l = (l.n ≤ l.most) × (l.block ≤ 64) × AllNull l.bytes l.i l.n

abbrev pub decreases-loop-block : goal.decreases-loop-block
decreases-loop-block l = l.most - l.n + l.block
