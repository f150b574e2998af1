-- The rows of the bytes from a place on are left to write; each turn writes that of the difference there, and passes it.
use Prim.Native.Nat.{◌≤◌, ◌-◌}
use lib.ListN.{length, drop}
use Rattle.diff_records.specs.ReadBack.{differences_in}
use Rattle.diff_rows.specs.Rows.{rows_text}
use Rattle.diff_rows.proofs.LeftLaws.{Left}
use Rattle.diff_rows.proofs.put_rows.Given as goal

abbrev pub invariant-loop-i : goal.invariant-loop-i
invariant-loop-i l = (l.i ≤ length l.records) × Left l.initial.page (rows_text (differences_in l.records)) (rows_text (differences_in (drop l.i l.records))) l.page

abbrev pub decreases-loop-i : goal.decreases-loop-i
decreases-loop-i l = length l.records - l.i
