-- The place reached stays within the nibbles' room, which keeps its length.
use Rattle.std.proofs.Common.{◌≡◌, ◌≤◌, length}
use Rattle.table_cases.proofs.table.put.Given as goal

abbrev pub invariant-loop-sign : goal.invariant-loop-sign
invariant-loop-sign l = (l.used ≤ length l.nibbles) × (length l.nibbles ≡ length l.initial.nibbles)
