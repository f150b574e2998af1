-- Place after place: those below the place reached are taken.
use Rattle.std.proofs.Common.{◌≡◌, ◌-◌}
use Rattle.reader_table.specs.Table.{place_count}
use Rattle.fluturenc_table.specs.TableBytes.{lowest_from}
use Rattle.fluturenc_table.proofs.lowest_free.Given as goal

abbrev pub invariant-loop-i : goal.invariant-loop-i
invariant-loop-i l = lowest_from place_count 0 l.table ≡ lowest_from (place_count - l.i) l.i l.table
