-- The piece read lies within the buffer.
use Rattle.std.proofs.Common.{◌≡◌, ◌≤◌, length}
use Rattle.piecewise.proofs.list_from.Given as goal

abbrev pub invariant-loop : goal.invariant-loop
invariant-loop g l = (l.n ≤ length l.buf) × (length l.buf ≡ length l.initial.buf)
