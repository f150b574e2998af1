-- A message's line is explained as one; any other line is unknown.
use mathlib.Core.Path.{refl}
use Rattle.register_line.specs.Line.{text_by, refused_by, sensor_by}
use Rattle.register_line.proofs.explain.Goals as goal

pub returns-then-is_message : goal.returns-then-is_message
unfolding text_by refused_by sensor_by
returns-then-is_message c =
    simp (← c.is_message.ensures, c.if-is_message.true)
    (record { leaves = c.explain-told.ensures.0; refuses = refl; tells = c.explain-told.ensures.1 })

pub returns : goal.returns
unfolding text_by refused_by sensor_by
returns c =
    simp (← c.is_message.ensures, c.if-is_message.false)
    (record { leaves = refl; refuses = refl; tells = c.put_unknown-length.ensures })
