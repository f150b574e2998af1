-- The place of a technician who is refused nothing is there, and so is its owner's byte.
use Rattle.std.proofs.Common.{arith}
use Rattle.fluturenc_table.specs.TableBytes.{place_start}
use Rattle.fluturenc_table.specs.TableCalls.{close_table}
use Rattle.technician.specs.TechnicianLaws.{granted as nothing_denied}
use Rattle.fluturenc_table.proofs.Granted.{granted}
use Rattle.fluturenc_table.proofs.fluturenc_table_close.Goals as goal

pub overflow_mul-table : goal.overflow_mul-table
overflow_mul-table c =
    let k = granted c.args.table.now c.args.technician c.args.place c.in-None.ensures in
    omega (arith, k.0)

pub bounds-table-place : goal.bounds-table-place
bounds-table-place c =
    let k = granted c.args.table.now c.args.technician c.args.place c.in-None.ensures in
    omega (arith, k.0, k.1)

pub returns-in-None : goal.returns-in-None
unfolding close_table place_start
returns-in-None c =
    let e = nothing_denied _ c.in-None.ensures in
    record { says = simp (e); keeps = simp (e) }
