-- The places from one on are left to count.
use Rattle.std.proofs.Common.{◌≡◌, length, drop}
use Rattle.diff_records.specs.Difference.{places_from}
use Rattle.diff_summary.specs.Summary.{with_differences}
use Rattle.diff_summary.proofs.Summary.with_places.Given as goal

abbrev pub invariant-loop-p : goal.invariant-loop-p
invariant-loop-p l =
    with_differences l.s (places_from l.n (length l.yielded) (drop (length l.yielded) l.a) (drop (length l.yielded) l.b)) ≡ with_differences l.initial.s (places_from l.n 0 l.a l.b)
