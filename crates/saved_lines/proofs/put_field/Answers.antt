-- The name, then the number.
use Rattle.text.specs.PagesLaws.{next}
use Rattle.saved_lines.proofs.put_field.Goals as goal

pub returns : goal.returns
returns c =
    next c.put.ensures c.put_decimal.ensures
