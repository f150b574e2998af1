-- The index behind the data is left where it is at most 127, and else 0: data ends where it begins or behind.
use borrow.Author.Tests.{lt-leb, le-leb}
use Rattle.message_data.specs.RegisterLaws.{reached_counts, reached_still, reached_more}
use Rattle.message_data.specs.Registers.{reached}
use Prim.Native.Nat.{◌+◌, ◌-◌, ◌<◌}
use lib.ListN.{length}
use native.Mathlib.Omega.{arith}
use Rattle.message_data.proofs.left.Goals as goal

pub returns-then-index-gt-LAST_INDEX : goal.returns-then-index-gt-LAST_INDEX
returns-then-index-gt-LAST_INDEX c =
    let a = c.args in
    let past : 127 < a.index = c.if-index-gt-LAST_INDEX.true in
    simp (lt-leb (reached a.increment a.index a.bytes.now) 127 (omega (arith, past, reached_more a.increment a.index a.bytes.now)))

pub returns-then-index-bytes : goal.returns-then-index-bytes
returns-then-index-bytes c =
    let a = c.args in
    let more : 127 - a.index < length a.bytes.now = c.if-index-bytes.true in
    simp (c.if-increment.true, reached_counts a.index a.bytes.now, lt-leb (a.index + length a.bytes.now) 127 (omega (arith, more)))

pub returns-then-increment : goal.returns-then-increment
returns-then-increment c = let a = c.args in
    simp (c.if-increment.true, reached_counts a.index a.bytes.now, le-leb (a.index + length a.bytes.now) 127 (omega arith))

pub returns : goal.returns
returns c = let a = c.args in
    simp (c.if-increment.false, reached_still a.index a.bytes.now, le-leb a.index 127 c.if-index-gt-LAST_INDEX.false)
