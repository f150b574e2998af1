-- At each turn storing the messages of the pairs left from here on gives the wanted buffer.
use mathlib.Core.Path.{◌≡◌}
use Prim.Native.Nat.{◌+◌}
use lib.ListN.{length}
use lib.Seq.{sets}
use Rattle.std.specs.Slice.Iter.{chunks_exact_rest, chunks_exact_size}
use Rattle.two_wire_write.specs.Writing.{messages, joined}
use Rattle.two_wire_write.proofs.put_messages.Given as goal

abbrev pub invariant-loop-pair : goal.invariant-loop-pair
invariant-loop-pair l =
    (chunks_exact_size l.pair-iterator ≡ 2) × (length l.buffer ≡ length l.initial.buffer)
    × (l.at + length (joined (messages (chunks_exact_rest l.pair-iterator))) ≡ length (joined (messages l.pairs)))
    × (sets l.buffer l.at (joined (messages (chunks_exact_rest l.pair-iterator))) ≡ sets l.initial.buffer 0 (joined (messages l.pairs)))
