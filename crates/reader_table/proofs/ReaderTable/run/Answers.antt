-- Where nothing is refused the reader of the place takes the run and goes back there; else the refusal, and nothing moves.
use Rattle.stream.specs.AnswersLaws.{answer_of}
use Rattle.refinement.specs.Runs.{run}
use Rattle.reader_table.proofs.Asked.{call_granted, call_denied}
use Rattle.reader_table.proofs.ReaderTable.run.Goals as goal

pub returns-in-None : goal.returns-in-None
returns-in-None c =
    let read = c.place_at-p.ensures in
    let a = c.args in
    let q = call_granted a.self a.technician a.place read (run a.nibbles.now a.buffer.now) c.in-None.ensures in
    let e = c.run-f.ensures in
    record {
      next = simp (q, c.with_reader-table.ensures, e.next);
      says = simp (q) (answer_of _ _ _ _ e.says);
      count = simp (q) e.count;
      leaves = simp (q) e.leaves;
    }

pub returns-in-Some : goal.returns-in-Some
returns-in-Some c =
    let read = c.place_at-p.ensures in
    let a = c.args in
    let q = call_denied a.self a.technician a.place read (run a.nibbles.now a.buffer.now) c.in-Some.ensures in
    let e = c.not_run.ensures in
    record { next = simp (q, e.0); says = simp (q, e.1); count = simp (q, e.2); leaves = simp (q) }
