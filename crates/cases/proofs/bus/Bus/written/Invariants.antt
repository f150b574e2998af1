-- The place stays within what was written, and the line buffer keeps its length.
use Rattle.std.proofs.Common.{◌≡◌, ◌≤◌, length}
use Rattle.cases.proofs.bus.Bus.written.Given as goal

abbrev pub invariant-loop : goal.invariant-loop
invariant-loop l = (l.from ≤ l.end) × (l.end ≤ length l.buffer) × (length l.line ≡ length l.initial.line)
