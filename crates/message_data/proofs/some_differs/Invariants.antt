-- At each turn some byte differs exactly where one of those left does, from the index reached on; past 127 none is compared.
use mathlib.Core.Path.{◌≡◌}
use lib.ListN.{drop}
use Rattle.message_data.specs.Registers.{some_differs}
use Rattle.message_data.proofs.some_differs.Given as goal

abbrev pub invariant-loop-byte : goal.invariant-loop-byte
invariant-loop-byte l = some_differs l.increment l.index l.bytes l.registers ≡ some_differs l.increment l.at (drop l.byte-index l.bytes) l.registers
