-- The places from one on are left to put.
use Rattle.std.proofs.Common.{length, drop}
use Rattle.diff_records.specs.Difference.{places_from, encoded_all}
use Rattle.diff_records.specs.RestLaws.{Rest}
use Rattle.diff_records.proofs.put_places.Given as goal

abbrev pub invariant-loop-p : goal.invariant-loop-p
invariant-loop-p l =
    Rest l.initial.buffer l.at (encoded_all (places_from l.n 0 l.a l.b)) (encoded_all (places_from l.n (length l.yielded) (drop (length l.yielded) l.a) (drop (length l.yielded) l.b))) l.next l.buffer
