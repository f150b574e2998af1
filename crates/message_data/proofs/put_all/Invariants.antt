-- At each turn storing the bytes left from the index reached on gives the wanted registers, and these bytes do not pass 127.
use mathlib.Core.Path.{◌≡◌}
use mathlib.Core.Bool.{false}
use lib.ListN.{drop}
use Rattle.message_data.specs.Registers.{runs_past, stored}
use Rattle.message_data.proofs.put_all.Given as goal

abbrev pub invariant-loop-byte : goal.invariant-loop-byte
invariant-loop-byte l = (runs_past l.increment l.at (drop l.byte-index l.bytes) ≡ false) × (stored l.increment l.at (drop l.byte-index l.bytes) l.registers ≡ stored l.increment l.index l.bytes l.initial.registers)
