-- Where nothing is refused the reader of the place takes the nibble and goes back there; else the refusal, and nothing moves.
use Rattle.stream.specs.AnswersLaws.{answer_of}
use Rattle.recovery.specs.Calls.{feed}
use Rattle.refinement.specs.Runs.{one}
use Rattle.reader_table.proofs.Asked.{call_granted, call_denied}
use Rattle.reader_table.proofs.ReaderTable.feed.Goals as goal

pub returns-in-None : goal.returns-in-None
returns-in-None c =
    let read = c.place_at-p.ensures in
    let a = c.args in
    let q = call_granted a.self a.technician a.place read (one (feed a.nibble a.buffer.now)) c.in-None.ensures in
    let e = c.feed-f.ensures in
    record { next = simp (q, c.with_reader-table.ensures, e.next); says = simp (q) (answer_of _ _ _ _ e.says); leaves = simp (q) e.leaves }

pub returns-in-Some : goal.returns-in-Some
returns-in-Some c =
    let read = c.place_at-p.ensures in
    let a = c.args in
    let q = call_denied a.self a.technician a.place read (one (feed a.nibble a.buffer.now)) c.in-Some.ensures in
    let e = c.refuse.ensures in
    record { next = simp (q, e.0); says = simp (q, e.1); leaves = simp (q) }
