-- Place after place: those before the place reached are free.
use Rattle.std.proofs.Common.{◌≡◌}
use Rattle.fluturenc_table.specs.TableCalls.{places_freed}
use Rattle.fluturenc_table.proofs.free_all.Given as goal

abbrev pub invariant-loop-i : goal.invariant-loop-i
invariant-loop-i l = l.table ≡ places_freed l.i l.initial.table
