-- A line with nothing before its comment gives no text; of any other the front before the comment is told.
use mathlib.Core.Path.{refl, sym}
use native.Mathlib.Omega.{arith}
use borrow.Author.Tests.{eq-eqb, ne_eqb}
use lib.Seq.{length-take-le}
use Rattle.text.specs.PutLaws.{puts_none}
use Rattle.register_line.specs.BareLaws.{bare_within}
use Rattle.register_line.specs.Line.{text_of, refused_of, sensor_of}
use Rattle.register_line.proofs.tell.Goals as goal

pub returns-then-n-eq0 : goal.returns-then-n-eq0
unfolding text_of refused_of sensor_of
returns-then-n-eq0 c = simp (← c.bare_length-n.ensures, eq-eqb _ _ c.if-n-eq0.true) (record { leaves = refl; refuses = refl; tells = puts_none _ 0 })

pub slice_bounds-tell_bare-end : goal.slice_bounds-tell_bare-end
slice_bounds-tell_bare-end c =
    let line = c.before.before.before.before.before.args.line.now in
    sym (length-take-le _ line (omega (arith, bare_within line, c.bare_length-n.ensures)))

pub returns : goal.returns
unfolding text_of refused_of sensor_of
returns c = simp (← c.bare_length-n.ensures, ne_eqb _ _ c.if-n-eq0.false) c.tell_bare.ensures
