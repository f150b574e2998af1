-- The five numbers, each after its name, and a newline, one after another.
use Rattle.text.specs.PagesLaws.{next}
use Rattle.saved_lines.proofs.put_setting.Goals as goal

pub returns : goal.returns
returns c =
    next c.put_field.ensures
    (next c.put_field-2.ensures
    (next c.put_field-3.ensures
    (next c.put_field-4.ensures (next c.put_field-5.ensures c.put.ensures))))
