-- The tests in the order of the definition; where one refuses nothing has moved, and past them the run goes up to its stop.
use mathlib.Core.Path.{sym, ◌∙◌}
use native.Mathlib.Omega.{arith}
use lib.ListN.{length}
use Rattle.reader.specs.Reader.{reader_of}
use Rattle.run.proofs.LegibleRuns.{legible_run}
use Rattle.run.proofs.Running.{lent_wrong, lent_right, run_fails, run_short, run_goes, gives_lent, refuses}
use Rattle.run.proofs.run_lent.Goals as goal

pub returns-then-body-ne-LONGEST : goal.returns-then-body-ne-LONGEST
returns-then-body-ne-LONGEST c =
    let a = c.args in
    let B = a.body.now in
    let s = a.nibbles.now in
    let b = a.buffer.now in
    refuses b (lent_wrong a.h B s (length b) c.if-body-ne-LONGEST.true) c.refuse.ensures

pub returns-then-buffer-body_length : goal.returns-then-buffer-body_length
returns-then-buffer-body_length c =
    let a = c.args in
    let B = a.body.now in
    let s = a.nibbles.now in
    let b = a.buffer.now in
    let q = lent_right a.h B s (length b) c.if-body-ne-LONGEST.false
    ∙ run_short a.h B s (length b) (sym c.passes.ensures ∙ c.if-passes.true) (omega (arith, c.if-buffer-body_length.true, c.body_length.ensures)) in
    refuses b q c.refuse-then-buffer-body_length.ensures

pub returns-then-passes : goal.returns-then-passes
returns-then-passes c =
    let test_1 = c.if-body-ne-LONGEST in
    let passes = c.passes in
    let test_2 = c.if-passes in
    let body_length_lem = c.body_length in
    let test_3 = c.if-buffer-body_length in
    let a = c.args in
    let B = a.body.now in
    let s = a.nibbles.now in
    let b = a.buffer.now in
    let q = lent_right a.h B s (length b) test_1.false
    ∙ run_goes a.h B s (length b) (sym passes.ensures ∙ test_2.true) (omega (arith, test_3.false, body_length_lem.ensures)) in
    let e = c.up_to_stop.ensures in
    gives_lent q e (legible_run (reader_of a.h B) s b)

pub returns : goal.returns
returns c =
    let a = c.args in
    let B = a.body.now in
    let s = a.nibbles.now in
    let b = a.buffer.now in
    let q = lent_right a.h B s (length b) c.if-body-ne-LONGEST.false ∙ run_fails a.h B s (length b) (sym c.passes.ensures ∙ c.if-passes.false) in
    refuses b q c.refuse-2.ensures
