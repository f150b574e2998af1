-- Where nothing is refused the reader of the place finishes and goes back there; else the refusal, and nothing moves.
use Rattle.recovery.specs.Calls.{done}
use Rattle.refinement.specs.Runs.{one}
use Rattle.reader_table.proofs.Asked.{call_granted, call_denied}
use Rattle.reader_table.proofs.ReaderTable.finish.Goals as goal

pub returns-in-None : goal.returns-in-None
returns-in-None c =
    let read = c.place_at-p.ensures in
    let a = c.args in
    let q = call_granted a.self a.technician a.place read (one done) c.in-None.ensures in
    let e = c.finish-f.ensures in
    record { next = simp (q, c.with_reader-table.ensures, e.next); says = simp (q, e.says) }

pub returns-in-Some : goal.returns-in-Some
returns-in-Some c =
    let read = c.place_at-p.ensures in
    let a = c.args in
    let q = call_denied a.self a.technician a.place read (one done) c.in-Some.ensures in
    let e = c.refuse.ensures in
    record { next = simp (q, e.0); says = simp (q, e.1) }
