-- The place of a technician who is refused nothing is there, with its reader's state, which is lent where it stands.
use Rattle.std.proofs.Common.{◌≡◌, arith}
use Rattle.std.specs.Prelude.{◌+◌, ◌-◌, ◌*◌}
use Rattle.fluturenc_table.specs.TableBytes.{place_start, state_at, with_state}
use Rattle.fluturenc_table.specs.TableCalls.{finish_table}
use Rattle.technician.specs.TechnicianLaws.{granted as nothing_denied}
use Rattle.fluturenc_table.proofs.Granted.{granted}
use Rattle.fluturenc_table.proofs.fluturenc_table_finish.Goals as goal

pub overflow_mul-from : goal.overflow_mul-from
overflow_mul-from c =
    let k = granted c.args.table.now c.args.technician c.args.place c.in-None.ensures in
    omega (arith, k.0, k.1)

pub overflow_add-from : goal.overflow_add-from
overflow_add-from c =
    let k = granted c.args.table.now c.args.technician c.args.place c.in-None.ensures in
    omega (arith, k.0, k.1)

pub overflow_add-from-in-None : goal.overflow_add-from-in-None
overflow_add-from-in-None c =
    let k = granted c.args.table.now c.args.technician c.args.place c.in-None.ensures in
    omega (arith, k.0, k.1)

pub slice_bounds-fluturenc_finish-end : goal.slice_bounds-fluturenc_finish-end
slice_bounds-fluturenc_finish-end c =
    let k = granted c.args.table.now c.args.technician c.args.place c.in-None.ensures in
    omega (arith, k.0, k.1)

pub returns-in-None : goal.returns-in-None
unfolding finish_table state_at with_state place_start
returns-in-None c =
    let i = c.args.place in
    let d = nothing_denied _ c.in-None.ensures in
    let e = c.fluturenc_finish.ensures in
    let k : 371 * i + 1 + 370 - (371 * i + 1) ≡ 370 = omega arith in
    record { says = simp (d, e.says, k); keeps = simp (d, e.keeps, k) }
