-- A byte's high nibble stands at an even place, its low one after it.
use Prim.Native.Nat.{◌/◌}
use mathlib.Core.Path.{sym}
use borrow.Author.Rules.{rules}
use Rattle.capture_bytes.proofs.Blocks.{high_at, low_at}
use Rattle.capture_bytes.proofs.nibble_at.Goals as goal

pub returns-then-at-eq0 : goal.returns-then-at-eq0
returns-then-at-eq0 c = let a = c.args in sym (high_at a.bytes.now a.at (a.at / 2) (search rules))

pub returns : goal.returns
returns c = let a = c.args in sym (low_at a.bytes.now a.at (a.at / 2) (search rules))
