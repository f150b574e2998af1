-- At each turn the nibbles of the bytes so far are stored, two places a byte, so there is room for the rest; the bytes left fall.
use native.Mathlib.Omega.{arith}
use borrow.Author.Rules.{rules}
use Rattle.writer.proofs.Putting.{put_none, put_next, put_all}
use Rattle.writer.proofs.put_bytes.Goals as goal

pub loop-byte-init : goal.loop-byte-init
loop-byte-init c = (search rules, put_none _ _)

pub loop-byte-preserved : goal.loop-byte-preserved
loop-byte-preserved c =
    let args = c.args in
    (search rules, put_next args.bytes.now c.loop-byte.byte-index (omega arith) c.loop-byte.invariant.1 c.put_byte-place.ensures)

pub returns : goal.returns
returns c = put_all c.args.bytes.now c.loop-byte.byte-index (omega arith) c.loop-byte.invariant.1
