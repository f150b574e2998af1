-- A fresh reader is stored in the lowest free place, whose owner's byte is then the technician's.
use Rattle.std.proofs.Common.{◌≡◌, arith, lt-ltb}
use Rattle.std.specs.Prelude.{◌+◌, ◌-◌, ◌*◌}
use Rattle.fluturenc_table.specs.TableBytes.{place_start, state_at, with_state}
use Rattle.fluturenc_table.specs.TableCalls.{open_lowest, opened_at}
use Rattle.fluturenc_table.proofs.open_lowest.Goals as goal

pub returns-then-place-lt-COUNT : goal.returns-then-place-lt-COUNT
unfolding open_lowest opened_at state_at with_state place_start
returns-then-place-lt-COUNT c =
    let i = c.lowest_free-place.result in
    let e = c.fluturenc_open.ensures in
    let k : 371 * i + 1 + 370 - (371 * i + 1) ≡ 370 = omega arith in
    let t = lt-ltb _ _ c.if-place-lt-COUNT.true in
    record { says = simp (← c.lowest_free-place.ensures, t); keeps = simp (← c.lowest_free-place.ensures, t, e.keeps, k) }
