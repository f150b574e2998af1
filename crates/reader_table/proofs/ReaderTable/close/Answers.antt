-- Where nothing is refused a free place takes the place of the old one; else the refusal, and nothing moves.
use Rattle.reader_table.proofs.Asked.{close_granted, close_denied}
use Rattle.reader_table.proofs.ReaderTable.close.Goals as goal

pub returns-in-None : goal.returns-in-None
returns-in-None c =
    let read = c.place_at-p.ensures in
    let a = c.args in
    let q = close_granted a.self a.technician a.place read c.in-None.ensures in
    record { next = simp (q, c.put_place-table.ensures, c.free-free.ensures); says = simp (q) }

pub returns-in-Some : goal.returns-in-Some
returns-in-Some c =
    let read = c.place_at-p.ensures in
    let a = c.args in
    let q = close_denied a.self a.technician a.place read c.in-Some.ensures in
    let e = c.refuse.ensures in
    record { next = simp (q, e.0); says = simp (q, e.1) }
