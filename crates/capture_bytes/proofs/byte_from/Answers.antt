-- From a high nibble on it is a byte, from a low one on it is half of one and half of the next.
use Prim.Native.Nat.{◌+◌}
use native.Mathlib.Omega.{arith}
use borrow.Author.Rules.{rules}
use Rattle.capture_bytes.proofs.Blocks.{byte_even, byte_odd}
use Rattle.capture_bytes.proofs.byte_from.Goals as goal

pub returns-then-odd-eq0 : goal.returns-then-odd-eq0
returns-then-odd-eq0 c = let a = c.args in byte_even a.bytes.now a.i a.odd (search rules)

pub overflow_add-result-2 : goal.overflow_add-result-2
overflow_add-result-2 c = omega (arith, (c.shared_slice_known-3-1.given (c.args.i + 1)).fits)

pub returns : goal.returns
returns c = let a = c.args in byte_odd a.bytes.now a.i a.odd (search rules)
