-- A line that fills its buffer is too long; of a shorter one what is kept is told.
use mathlib.Core.Path.{refl, sym}
use native.Mathlib.Omega.{arith}
use lib.Seq.{length-take-le}
use Rattle.register_script.specs.ScriptLaws.{fills, room_left}
use Rattle.register_script.specs.Script.{line_text, line_refused, line_sensor}
use Rattle.register_script.proofs.answer.Goals as goal

pub returns-then-line-n : goal.returns-then-line-n
unfolding line_text line_refused line_sensor
returns-then-line-n c =
    let a = c.args in
    simp (fills a.line.now a.script.length c.if-line-n.true) (record { leaves = refl; refuses = refl; tells = c.put_too_long-length.ensures })

pub slice_bounds-tell-end : goal.slice_bounds-tell-end
slice_bounds-tell-end c =
    let a = c.args in
    sym (length-take-le a.script.length a.line.now (omega (arith, c.if-line-n.false)))

pub returns : goal.returns
unfolding line_text line_refused line_sensor
returns c =
    let a = c.args in
    simp (room_left a.line.now a.script.length c.if-line-n.false) c.tell.ensures
