-- The place reached stays within the nibbles' room, which keeps its length.
use Rattle.std.proofs.Common.{◌≡◌, ◌≤◌, length}
use Rattle.table_cases.proofs.table.fill_times.Given as goal

abbrev pub invariant-loop : goal.invariant-loop
invariant-loop l = (l.used ≤ length l.nibbles) × (length l.nibbles ≡ length l.initial.nibbles)
