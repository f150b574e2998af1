-- At each turn some index is past 127 exactly where one of the pairs left is.
use mathlib.Core.Path.{◌≡◌}
use Rattle.std.specs.Slice.Iter.{chunks_exact_rest, chunks_exact_size}
use Rattle.two_wire_write.specs.Writing.{some_index_past}
use Rattle.two_wire_write.proofs.some_index_past.Given as goal

abbrev pub invariant-loop-pair : goal.invariant-loop-pair
invariant-loop-pair l = (chunks_exact_size l.pair-iterator ≡ 2) × (some_index_past l.pairs ≡ some_index_past (chunks_exact_rest l.pair-iterator))
