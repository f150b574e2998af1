-- The rows' buffer keeps its length, within which a complete frame's rows are.
use Rattle.std.proofs.Common.{◌≡◌, length}
use Rattle.frame_file.proofs.seek.Given as goal

abbrev pub invariant-loop : goal.invariant-loop
invariant-loop l = length l.rows ≡ length l.initial.rows
