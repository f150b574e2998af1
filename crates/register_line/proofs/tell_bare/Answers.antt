-- A setting gives its messages or why it is refused; another line is explained; by the match on the setting that was read.
use mathlib.Core.Path.{refl}
use borrow.Author.Rules.{rules}
use Rattle.text.specs.PagesLaws.{next, from_front}
use Rattle.register_line.specs.Line.{text_by, refused_by, sensor_by}
use Rattle.register_line.proofs.tell_bare.Goals as goal

pub returns-in-Single : goal.returns-in-Single
unfolding text_by refused_by sensor_by
returns-in-Single c =
    simp (← c.read-asked.ensures, c.in-Single.is) (record { leaves = refl; refuses = refl; tells = search (rules, from_front c.new-page.ensures c.put_message.ensures) })

pub returns-in-Double : goal.returns-in-Double
unfolding text_by refused_by sensor_by
returns-in-Double c =
    let w = next c.put_message-in-Double.ensures c.put_message-in-Double-2.ensures in
    simp (← c.read-asked.ensures, c.in-Double.is) (record { leaves = refl; refuses = refl; tells = search (rules, from_front c.new-page-in-Double.ensures w) })

pub returns-in-Beyond : goal.returns-in-Beyond
unfolding text_by refused_by sensor_by
returns-in-Beyond c =
    simp (← c.read-asked.ensures, c.in-Beyond.is) (record { leaves = refl; refuses = refl; tells = c.put_beyond-length.ensures })

pub returns-in-NoGain : goal.returns-in-NoGain
unfolding text_by refused_by sensor_by
returns-in-NoGain c =
    simp (← c.read-asked.ensures, c.in-NoGain.is) (record { leaves = refl; refuses = refl; tells = c.put_no_gain-length.ensures })

pub returns-in-Unknown : goal.returns-in-Unknown
returns-in-Unknown c =
    simp (← c.read-asked.ensures, c.in-Unknown.is) c.explain.ensures
